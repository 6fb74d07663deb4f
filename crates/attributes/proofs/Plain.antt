-- Tags whose attributes are all plain, and attributes none of which has a section.
--     plain_givens                        what is held of plain attributes
--     Plainly, begin_plain, turn_plain, turn_held, ended_plain     the loop of `hold_plain`
--     none_zero, none_zero_laid           where there is no section each number is 0
use Prim.Native.Nat.{ℕ, zero, suc, ◌+◌, ◌*◌, ◌≤◌, ◌<◌}
use mathlib.Core.Path.{◌≡◌, refl, sym, ap, subst, ◌∙◌}
use mathlib.Core.List.{List, [], ◌∷◌, ◌++◌, map}
use mathlib.Core.Bool.{Bool, true, false, cond}
use native.Mathlib.Omega.{arith}
use native.Mathlib.Nat.{add-zero, not-suc-le-zero}
use native.Mathlib.Numerals.{add-one}
use lib.ListN.{length, get_or, set, drop, length-append, length-set}
use lib.Seq.{take-set-le, drop-set-add}
use Rattle.laws.specs.Lists.{any, all, tabulate, keep}
use Rattle.laws.specs.Gather.{gather}
use Rattle.laws.specs.Members.{All}
use Rattle.laws.specs.Over.{overwrite}
use Rattle.laws.proofs.Over.{over_none, length_over, over_set, get_d_over_in}
use Rattle.laws.proofs.Flags.{and_left, and_right}
use Rattle.laws.proofs.Lists.{length_tabulate}
use Rattle.table.specs.Table.{Table}
use Rattle.lexer.specs.declared.Attr.{Attr}
use Rattle.lexer.specs.Attrs.{attr_in, attrs_in}
use Rattle.reader.specs.Namespaces.{Namespace, nothing, same_namespace}
use Rattle.reader.specs.Stored.{Coded, coded, at_most, found_in}
use Rattle.reader.specs.Known.{plain_attr}
use Rattle.reader.proofs.Indexed.{at_most_le, tab_last}
use Rattle.reader.proofs.Plain.{plain_kind}
use Rattle.attributes.specs.declared.Placing.{Placing}
use Rattle.attributes.specs.Attributes.{Given, namespace_of, given_by, givens_of, given_numbers, laid_givens, given_in, attributes_in, sections_in, stays_with, sections_with, place_among, numbers_from, sections_after, code_namespaces}
use Rattle.attributes.proofs.HeldParts.{over_first, over_behind}
use Rattle.attributes.proofs.Giving.{placing, placing_nothing, laid_none, laid_more}
use Rattle.attributes.proofs.Numbering.{map_tabulate, numbers_long}

-- ---- what is held of plain attributes
abbrev pub plain_of : Attr → Given
plain_of a = given_by a (placing 0 0 0) 0

abbrev pub plain_at : List ℕ → ℕ → Given
plain_at array k = plain_of (attr_in array k)

module _ (t : Table) (s own open' : List ℕ) where
  one_plain : (a : Attr) (c : ℕ) (rest : List Coded) → plain_attr s a ≡ true → c ≡ 0
      → givens_of t s own open' (record { attr = a; code = c } ∷ rest) ≡ plain_of a ∷ givens_of t s own open' rest
  unfolding givens_of keep
  one_plain a c rest p e =
      rw (plain_kind s a p, e)
      (ap (λ (w : Placing). given_by a w 0 ∷ givens_of t s own open' rest) (sym (placing_nothing t s own open' (found_in 0) refl)))

  all_plain : (as' : List Attr) (codes : List ℕ) → all (plain_attr s) as' ≡ true → All (λ (c : Coded). c.code ≡ 0) (coded as' codes)
      → givens_of t s own open' (coded as' codes) ≡ map plain_of as'
  unfolding all givens_of keep
  all_plain [] codes p z = refl
  all_plain (a ∷ as') [] p z =
      one_plain a 0 (coded as' []) (and_left (plain_attr s a) _ p) refl
      ∙ ap (λ (l : List Given). plain_of a ∷ l) (all_plain as' [] (and_right (plain_attr s a) _ p) z.1)
  all_plain (a ∷ as') (c ∷ cs) p z =
      one_plain a c (coded as' cs) (and_left (plain_attr s a) _ p) z.0
      ∙ ap (λ (l : List Given). plain_of a ∷ l) (all_plain as' cs (and_right (plain_attr s a) _ p) z.1)

  pub plain_givens : (array codes : List ℕ) (count most : ℕ) → most ≡ at_most 16 count → all (plain_attr s) (attrs_in array count) ≡ true
      → All (λ (c : Coded). c.code ≡ 0) (coded (attrs_in array count) codes)
      → givens_of t s own open' (coded (attrs_in array count) codes) ≡ tabulate (plain_at array) 0 most
  unfolding attrs_in
  plain_givens array codes count most e p z = all_plain (attrs_in array count) codes p z ∙ tabbed
    where
      tabbed : map plain_of (attrs_in array count) ≡ tabulate (plain_at array) 0 most
      tabbed = map_tabulate plain_of (attr_in array) 0 (at_most 16 count) ∙ ap (tabulate (plain_at array) 0) (sym e)

-- ---- the codes of what was laid are read again
tab_same : {A : Type 0} (f g : ℕ → A) (k n : ℕ) → ((j : ℕ) → j < n → f (k + j) ≡ g (k + j)) → tabulate f k n ≡ tabulate g k n
unfolding tabulate
tab_same f g k zero h = refl
tab_same f g k (suc n) h =
    let q : f k ≡ g k = ap f (sym (add-zero k)) ∙ h 0 (omega arith) ∙ ap g (add-zero k) in
    let more : tabulate f (suc k) n ≡ tabulate g (suc k) n =
    tab_same f g (suc k) n (λ (j : ℕ) l. let z : suc k + j ≡ k + suc j = omega arith in ap f z ∙ h (suc j) (omega arith) ∙ ap g (sym z)) in
    ap (λ (x : _). x ∷ tabulate f (suc k) n) q ∙ ap (λ (x : List _). g k ∷ x) more

code_read : (f : ℕ → Given) → ((k : ℕ) → (f k).code ≡ 0) → (k n j : ℕ) (post : List ℕ) → j < n
    → get_or (gather given_numbers (tabulate f k n) ++ post) (8 * j + 7) 0 ≡ 0
unfolding tabulate gather
code_read f z k zero j post h = absurd (not-suc-le-zero h)
code_read f z k (suc n) zero post h = rw (z k)
code_read f z k (suc n) (suc j) post h =
    let q : 8 * suc j + 7 ≡ suc (suc (suc (suc (suc (suc (suc (suc (8 * j + 7)))))))) = omega arith in
    rw q (code_read f z (suc k) n j post (omega arith))

namespaces_none : (own open' array l₀ l : List ℕ) (n : ℕ) → l ≡ laid_givens (tabulate (plain_at array) 0 n) l₀
    → code_namespaces own open' (tabulate (given_in l) 0 n) ≡ tabulate (λ (k : ℕ). nothing) 0 n
unfolding given_in laid_givens
namespaces_none own open' array l₀ l n e =
    map_tabulate (λ (g : Given). namespace_of own open' g.code) (given_in l) 0 n
    ∙ tab_same (λ (k : ℕ). namespace_of own open' (given_in l k).code) (λ (k : ℕ). nothing) 0 n (λ (j : ℕ) h. let z : 0 + j ≡ j = omega arith in rw (z, zero_at_lem j h))
  where
    zero_at_lem : (j : ℕ) → j < n → (given_in l j).code ≡ 0
    zero_at_lem j h = ap (λ (x : List ℕ). get_or x (8 * j + 7) 0) e ∙ code_read (plain_at array) (λ k. refl) 0 n j (drop (8 * length (tabulate (plain_at array) 0 n)) l₀) h

-- in no namespace, all stay with the element
module _ (s : List ℕ) (e : Namespace) where
  sections_none : (k n : ℕ) → sections_after s e [] (tabulate (λ (j : ℕ). nothing) k n) ≡ []
  unfolding tabulate sections_after
  sections_none k zero = refl
  sections_none k (suc n) = sections_none (suc k) n

  numbers_none : (k n : ℕ) → numbers_from s e [] (tabulate (λ (j : ℕ). nothing) k n) ≡ tabulate (λ (j : ℕ). 0) k n
  unfolding tabulate numbers_from
  numbers_none k zero = refl
  numbers_none k (suc n) = ap (λ (l : List ℕ). 0 ∷ l) (numbers_none (suc k) n)

-- ---- the loop of `hold_plain`: the first i attributes are held, each with section 0
pub record Plainly (array : List ℕ) (most : ℕ) (l₀ z₀ l z : List ℕ) (i : ℕ) : Type 0 where
  pub within : i ≤ most
  pub most_few : most ≤ 16
  pub long : length l ≡ 128
  pub room : length z₀ ≡ 16
  pub sized : length z ≡ 16
  pub laid : l ≡ laid_givens (tabulate (plain_at array) 0 i) l₀
  pub zeros : z ≡ overwrite z₀ 0 (tabulate (λ (k : ℕ). 0) 0 i)

module _ (array : List ℕ) (count most : ℕ) (em : most ≡ at_most 16 count) (l₀ z₀ : List ℕ) where
  pub begin_plain : length l₀ ≡ 128 → length z₀ ≡ 16 → Plainly array most l₀ z₀ l₀ z₀ 0
  unfolding tabulate
  begin_plain long room =
      record {
        within = omega arith;
        most_few = at_most_le 16 count most em;
        long = long;
        room = room;
        sized = room;
        laid = sym (laid_none l₀);
        zeros = sym (over_none z₀ 0);
      }

  module _ (l z : List ℕ) (i : ℕ) (d : Plainly array most l₀ z₀ l z i) where
    pub turn_plain : i < most → (a : Attr) → a ≡ attr_in array i → (w : Placing) → w ≡ placing 0 0 0
        → (r : List ℕ) → r ≡ overwrite l (8 * i) (given_numbers (given_by a w 0)) → Plainly array most l₀ z₀ r (set z i 0) (i + 1)
    turn_plain h a ea w ew r er =
        let gs : List Given = tabulate (plain_at array) 0 i in
        let zs : List ℕ = tabulate (λ (k : ℕ). 0) 0 i in
        let lg : length gs ≡ i = length_tabulate (plain_at array) 0 i in
        let lz : length zs ≡ i = length_tabulate (λ (k : ℕ). 0) 0 i in
        let qz : i ≡ 0 + length zs = omega arith in
        let eg : given_by a w 0 ≡ plain_at array i = rw (ew, ea) in
        record {
          within = omega arith;
          most_few = d.most_few;
          long =
              ap (λ (x : List ℕ). length x) er
              ∙ length_over l (8 * i) (given_numbers (given_by a w 0)) (omega (arith, d.most_few, d.long))
              ∙ d.long;
          room = d.room;
          sized = length-set z i 0 ∙ d.sized;
          laid =
              er ∙ ap (λ (x : Given). overwrite l (8 * i) (given_numbers x)) eg
              ∙ ap (λ (x : List ℕ). overwrite x (8 * i) (given_numbers (plain_at array i))) d.laid
              ∙ ap (λ (k : ℕ). overwrite (laid_givens gs l₀) (8 * k) (given_numbers (plain_at array i))) (sym lg)
              ∙ laid_more l₀ gs (plain_at array i)
              ∙ ap (λ (x : List Given). laid_givens x l₀) (sym (ap (tabulate (plain_at array) 0) (add-one i) ∙ tab_last (plain_at array) i));
          zeros =
              ap (λ (x : List ℕ). set x i 0) d.zeros
              ∙ ap (λ (k : ℕ). set (overwrite z₀ 0 zs) k 0) qz
              ∙ over_set z₀ 0 zs 0 (omega (arith, d.most_few, d.room))
              ∙ ap (overwrite z₀ 0) (sym (ap (tabulate (λ (k : ℕ). 0) 0) (add-one i) ∙ tab_last (λ (k : ℕ). 0) i));
        }

    pub ended_plain : most ≤ i → (most ≤ 16) × (
        (t : Table) (s own outer codes : List ℕ) (e : Namespace)
        → all (plain_attr s) (attrs_in array count) ≡ true
        → All (λ (c : Coded). c.code ≡ 0) (coded (attrs_in array count) codes)
        → (most ≡ length (givens_of t s own outer (coded (attrs_in array count) codes)))
        × (l ≡ laid_givens (givens_of t s own outer (coded (attrs_in array count) codes)) l₀)
        × (0 ≡ length (sections_after s e [] (code_namespaces own outer (tabulate (given_in l) 0 most))))
        × (z ≡ overwrite z₀ 0 (numbers_from s e [] (code_namespaces own outer (tabulate (given_in l) 0 most)))))
    ended_plain h =
        let q : i ≡ most = omega (arith, d.within) in
        let el : l ≡ laid_givens (tabulate (plain_at array) 0 most) l₀ = d.laid ∙ ap (λ (k : ℕ). laid_givens (tabulate (plain_at array) 0 k) l₀) q in
        let ez : z ≡ overwrite z₀ 0 (tabulate (λ (k : ℕ). 0) 0 most) = d.zeros ∙ ap (λ (k : ℕ). overwrite z₀ 0 (tabulate (λ (j : ℕ). 0) 0 k)) q in (
          d.most_few,
          λ t s own outer codes e p c.
              let eg : givens_of t s own outer (coded (attrs_in array count) codes) ≡ tabulate (plain_at array) 0 most = plain_givens t s own outer array codes count most em p c in
              let en : code_namespaces own outer (tabulate (given_in l) 0 most) ≡ tabulate (λ (k : ℕ). nothing) 0 most = namespaces_none own outer array l₀ l most el in (
                sym (ap (λ (x : List Given). length x) eg ∙ length_tabulate (plain_at array) 0 most),
                el ∙ ap (λ (x : List Given). laid_givens x l₀) (sym eg),
                sym (ap (λ (x : List Namespace). length x) (ap (sections_after s e []) en ∙ sections_none s e 0 most)),
                ez ∙ ap (overwrite z₀ 0) (sym (ap (numbers_from s e []) en ∙ numbers_none s e 0 most)),
              ),
        )

-- the same of both parts of an array
pub turn_held : (array : List ℕ) (count most : ℕ) → most ≡ at_most 16 count → (l₀ z₀ all : List ℕ) (i : ℕ) → length all ≡ 144 → Plainly array most l₀ z₀ (attributes_in all) (sections_in all) i → i < most
    → (a : Attr) → a ≡ attr_in array i → (w : Placing) → w ≡ placing 0 0 0 → (r : List ℕ) → r ≡ overwrite all (8 * i) (given_numbers (given_by a w 0))
    → (length (set r (128 + i) 0) ≡ 144) × Plainly array most l₀ z₀ (attributes_in (set r (128 + i) 0)) (sections_in (set r (128 + i) 0)) (i + 1)
turn_held array count most em l₀ z₀ all i long d h a ea w ew r er =
    let few = d.most_few in
    let numbers : List ℕ = given_numbers (given_by a w 0) in
    let first : attributes_in (set r (128 + i) 0) ≡ overwrite (attributes_in all) (8 * i) numbers = take-set-le 128 r (128 + i) 0 (omega arith) ∙ ap attributes_in er ∙ over_first all (omega arith) (8 * i) numbers (omega arith) in
    let behind : sections_in (set r (128 + i) 0) ≡ set (sections_in all) i 0 =
    drop-set-add 128 r i 0 ∙ ap (λ (x : List ℕ). set x i 0) (ap sections_in er ∙ over_behind all (omega arith) (8 * i) numbers (omega arith)) in (
      length-set r (128 + i) 0 ∙ ap (λ (x : List ℕ). length x) er ∙ length_over all (8 * i) numbers (omega arith) ∙ long,
      subst (λ (z : List ℕ). Plainly array most l₀ z₀ (attributes_in (set r (128 + i) 0)) z (i + 1)) (sym behind)
          (turn_plain array count most em l₀ z₀ (attributes_in all) (sections_in all) i d h a ea w ew (attributes_in (set r (128 + i) 0)) first),
    )

-- ---- no section: each attribute's number is 0
module _ (s : List ℕ) (e : Namespace) where
  with_grows : (n : Namespace) (ms : List Namespace) → length ms ≤ length (sections_with s ms n)
  with_grows n ms = by (any (λ (m : Namespace). same_namespace s m n) ms)
    where
      by : (b : Bool) → length ms ≤ length (cond b ms (ms ++ (n ∷ [])))
      by true = omega arith
      by false = omega (arith, length-append ms (n ∷ []))

  sections_grow : (ms ns : List Namespace) → length ms ≤ length (sections_after s e ms ns)
  unfolding sections_after
  sections_grow ms [] = omega arith
  sections_grow ms (n ∷ ns) = by (stays_with s e n) (sections_grow ms ns) (sections_grow (sections_with s ms n) ns)
    where
      by : (b : Bool) → length ms ≤ length (sections_after s e ms ns) → length (sections_with s ms n) ≤ length (sections_after s e (sections_with s ms n) ns)
          → length ms ≤ length (cond b (sections_after s e ms ns) (sections_after s e (sections_with s ms n) ns))
      by true p q = p
      by false p q = omega (arith, with_grows n ms)

  pub none_zero : (ns : List Namespace) → 0 ≡ length (sections_after s e [] ns) → (k : ℕ) → k < length ns → get_or (numbers_from s e [] ns) k 0 ≡ 0
  unfolding sections_after numbers_from any
  none_zero [] h k l = absurd (not-suc-le-zero l)
  none_zero (n ∷ ns) h k l = by (stays_with s e n) h k l (none_zero ns)
    where
      by : (b : Bool) → 0 ≡ length (cond b (sections_after s e [] ns) (sections_after s e (n ∷ []) ns)) → (j : ℕ) → j < suc (length ns)
          → (0 ≡ length (sections_after s e [] ns) → (i : ℕ) → i < length ns → get_or (numbers_from s e [] ns) i 0 ≡ 0)
          → get_or (cond b (0 ∷ numbers_from s e [] ns) (suc (place_among s n 0 []) ∷ numbers_from s e (n ∷ []) ns)) j 0 ≡ 0
      by true q zero m ih = refl
      by true q (suc j) m ih = ih q j (omega arith)
      by false q j m ih = absurd (omega (arith, sections_grow (n ∷ []) ns))

  -- the same of an array that has the numbers from its first place on
  pub none_zero_laid : (ns : List Namespace) (l : List ℕ) → 0 ≡ length (sections_after s e [] ns) → (k : ℕ) → k < length ns → get_or (overwrite l 0 (numbers_from s e [] ns)) k 0 ≡ 0
  none_zero_laid ns l h k m =
      let q : k ≡ 0 + k = omega arith in
      ap (λ (j : ℕ). get_or (overwrite l 0 (numbers_from s e [] ns)) j 0) q
      ∙ get_d_over_in l 0 (numbers_from s e [] ns) k 0 (omega (arith, numbers_long s e [] ns)) (omega arith)
      ∙ none_zero ns h k m
