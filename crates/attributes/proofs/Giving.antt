-- The attributes of a tag laid down in an array, eight numbers to each.
--     class-*, placing-*          an attribute's namespace
--     given_are                   one attribute
--     Holding, begin, ..          the loop of `hold`
--     givens_back, namespaces_back    what was laid is read again
use Prim.Native.Nat.{ℕ, zero, suc, ◌+◌, ◌*◌, ◌-◌, ◌%◌, ◌^◌, ◌≤◌, ◌<◌}
use mathlib.Core.Path.{◌≡◌, refl, sym, ap, ◌∙◌}
use mathlib.Core.List.{List, [], ◌∷◌, ◌++◌, map, append_assoc, append-nil}
use mathlib.Core.Bool.{Bool, true, false, cond, not}
use native.Mathlib.Omega.{arith}
use native.Mathlib.Nat.{add-zero, mod-eq_of_lt}
use lib.ListN.{length, get_or, drop, length-append}
use lib.Seq.{get_or-append-add}
use Rattle.laws.specs.Lists.{tabulate, keep}
use Rattle.laws.specs.Gather.{gather}
use Rattle.laws.specs.Members.{All}
use Rattle.laws.specs.Over.{overwrite}
use Rattle.laws.proofs.Over.{over_none, length_over, over_over}
use Rattle.laws.proofs.Gather.{gather_none, gather_append}
use Rattle.laws.proofs.Lists.{tabulate_here, tabulate_done}
use Rattle.table.specs.Table.{Table}
use Rattle.table.proofs.Namespaces.{class_nil, class_xml}
use Rattle.lexer.specs.declared.Attr.{Attr}
use Rattle.lexer.specs.Attrs.{attr_in, attrs_in}
use Rattle.reader.specs.declared.Found.{Found}
use Rattle.reader.specs.declared.Found.TheVariants as variant
use Rattle.reader.specs.Spans.{kind_of}
use Rattle.reader.specs.Stored as stored
use Rattle.reader.specs.Stored.{Coded, coded, at_most, narrowed, is_declaration}
use Rattle.reader.proofs.Indexed.{at_most_le}
use Rattle.model.specs.Elements.{space_of}
use Rattle.attributes.specs.declared.Placing.{Placing}
use Rattle.attributes.specs.Attributes.{Given, namespace_of, given_of, given_by, placing_of, delivered, givens_of, given_numbers, laid_givens, given_in, code_namespaces}

-- ---- namespaces
abbrev pub placing : ℕ → ℕ → ℕ → Placing
placing class at len = record { class = class; at = at; len = len }

module _ (t : Table) (s : List ℕ) where
  module _ (own open' : List ℕ) (f : Found) where
    pub placing_nothing : f ≡ variant.Nothing → placing 0 0 0 ≡ placing_of (space_of t s (stored.stored_space own open' f))
    unfolding space_of
    placing_nothing e = rw (e, class_nil t)

    pub placing_unbound : f ≡ variant.Unbound → placing 0 0 0 ≡ placing_of (space_of t s (stored.stored_space own open' f))
    unfolding space_of
    placing_unbound e = rw (e, class_nil t)

    pub placing_xml : f ≡ variant.Xml → placing 254 0 0 ≡ placing_of (space_of t s (stored.stored_space own open' f))
    unfolding space_of
    placing_xml e = rw (e, class_xml t)

-- ---- one attribute
pub given_are : (a : Attr) (w : Placing) (code : ℕ) (x₀ x₁ x₂ x₃ x₄ x₅ x₆ x₇ m n : ℕ) → w.class < 256
    → x₀ ≡ narrowed a.name.part → m ≡ a.name.end - a.name.part → x₁ ≡ narrowed m
    → x₂ ≡ narrowed a.value → n ≡ a.stop - a.value → x₃ ≡ narrowed n
    → x₄ ≡ w.class → x₅ ≡ narrowed w.at → x₆ ≡ narrowed w.len → x₇ ≡ narrowed code
    → x₀ ∷ x₁ ∷ x₂ ∷ x₃ ∷ x₄ ∷ x₅ ∷ x₆ ∷ x₇ ∷ [] ≡ given_numbers (given_by a w code)
given_are a w code x₀ x₁ x₂ x₃ x₄ x₅ x₆ x₇ m n small e₀ em e₁ e₂ en e₃ e₄ e₅ e₆ e₇ =
    let few : w.class % 2 ^ 32 ≡ w.class = mod-eq_of_lt {n = w.class} {m = 2 ^ 32} (omega arith) in
    rw (few, ← e₄, ← em, ← en, ← e₀, ← e₁, ← e₂, ← e₃, ← e₅, ← e₆, ← e₇)

pub eight_long : (gs : List Given) → length (gather given_numbers gs) ≡ 8 * length gs
unfolding gather
eight_long [] = refl
eight_long (g ∷ gs) = omega (arith, eight_long gs)

-- ---- an array with attributes in front is one that is overwritten there
module _ (l : List ℕ) where
  pub laid_over : (gs : List Given) → laid_givens gs l ≡ overwrite l 0 (gather given_numbers gs)
  unfolding laid_givens overwrite
  laid_over gs =
      let e : 8 * length gs ≡ 0 + length (gather given_numbers gs) = omega (arith, eight_long gs) in
      ap (λ (k : ℕ). gather given_numbers gs ++ drop k l) e

  pub laid_none : laid_givens [] l ≡ l
  laid_none = laid_over [] ∙ ap (overwrite l 0) (gather_none given_numbers) ∙ over_none l 0

  pub laid_more : (gs : List Given) (g : Given) → overwrite (laid_givens gs l) (8 * length gs) (given_numbers g) ≡ laid_givens (gs ++ (g ∷ [])) l
  unfolding gather
  laid_more gs g =
      let e : 8 * length gs ≡ 0 + length (gather given_numbers gs) = omega (arith, eight_long gs) in
      ap (λ (k : ℕ). overwrite (laid_givens gs l) k (given_numbers g)) e
      ∙ ap (λ (r : List ℕ). overwrite r (0 + length (gather given_numbers gs)) (given_numbers g)) (laid_over gs)
      ∙ over_over l 0 (gather given_numbers gs) (given_numbers g) (omega arith)
      ∙ ap (overwrite l 0) (sym (gather_append given_numbers gs (g ∷ [])))
      ∙ sym (laid_over (gs ++ (g ∷ [])))

-- ---- the attributes of an array with their codes
abbrev pub coded_at : List ℕ → List ℕ → ℕ → Coded
coded_at array codes k = record { attr = attr_in array k; code = get_or codes k 0 }

coded_tab : (f : ℕ → Attr) (g : ℕ → ℕ) (k n : ℕ) (cs : List ℕ) → ((j : ℕ) → get_or cs j 0 ≡ g (k + j))
    → coded (tabulate f k n) cs ≡ tabulate (λ (j : ℕ). record { attr = f j; code = g j }) k n
unfolding tabulate
coded_tab f g k zero cs h = refl
coded_tab f g k (suc n) [] h =
    let e : 0 ≡ g k = h 0 ∙ ap g (add-zero k) in
    ap (λ (c : ℕ). record { attr = f k; code = c } ∷ coded (tabulate f (suc k) n) []) e
    ∙ ap (λ (l : List Coded). record { attr = f k; code = g k } ∷ l)
    (coded_tab f g (suc k) n [] (λ (j : ℕ). let q : k + suc j ≡ suc k + j = omega arith in h (suc j) ∙ ap g q))
coded_tab f g k (suc n) (c ∷ cs) h =
    let e : c ≡ g k = h 0 ∙ ap g (add-zero k) in
    ap (λ (x : ℕ). record { attr = f k; code = x } ∷ coded (tabulate f (suc k) n) cs) e
    ∙ ap (λ (l : List Coded). record { attr = f k; code = g k } ∷ l)
    (coded_tab f g (suc k) n cs (λ (j : ℕ). let q : k + suc j ≡ suc k + j = omega arith in h (suc j) ∙ ap g q))

pub coded_tabulate : (array codes : List ℕ) (count most : ℕ) → most ≡ at_most 16 count → coded (attrs_in array count) codes ≡ tabulate (coded_at array codes) 0 most
unfolding attrs_in
coded_tabulate array codes count most e =
    coded_tab (attr_in array) (λ (k : ℕ). get_or codes k 0) 0 (at_most 16 count) codes (λ (j : ℕ). let q : j ≡ 0 + j = omega arith in ap (λ (k : ℕ). get_or codes k 0) q)
    ∙ ap (tabulate (coded_at array codes) 0) (sym e)

-- ---- the loop of `hold`: the first i attributes are looked at, n of them held, and with those of the rest they are the tag's
pub record Holding (t : Table) (s own open' array codes : List ℕ) (most : ℕ) (gs : List Given) (l₀ l : List ℕ) (n i : ℕ) : Type 0 where
  pub held : List Given
  pub counted : length held ≡ n
  pub few : n ≤ i
  pub within : i ≤ most
  pub most_few : most ≤ 16
  pub long : length l ≡ 144
  pub laid : l ≡ laid_givens held l₀
  pub left : held ++ givens_of t s own open' (tabulate (coded_at array codes) i (most - i)) ≡ gs

module _ (t : Table) (s own open' array codes : List ℕ) (most : ℕ) (gs : List Given) (l₀ : List ℕ) where
  pub begin : (count : ℕ) → gs ≡ givens_of t s own open' (coded (attrs_in array count) codes) → most ≡ at_most 16 count → length l₀ ≡ 144 → Holding t s own open' array codes most gs l₀ l₀ 0 0
  begin count eg em long =
      record {
        held = [];
        counted = refl;
        few = omega arith;
        within = omega arith;
        most_few = at_most_le 16 count most em;
        long = long;
        laid = sym (laid_none l₀);
        left =
            let z : most - 0 ≡ most = omega arith in
            ap (λ (k : ℕ). givens_of t s own open' (tabulate (coded_at array codes) 0 k)) z
            ∙ ap (givens_of t s own open') (sym (coded_tabulate array codes count most em)) ∙ sym eg;
      }

  module _ (l : List ℕ) (n i : ℕ) (d : Holding t s own open' array codes most gs l₀ l n i) where
    abbrev here : Coded
    here = coded_at array codes i

    abbrev more : List Given
    more = givens_of t s own open' (tabulate (coded_at array codes) (i + 1) (most - (i + 1)))

    first : i < most → givens_of t s own open' (tabulate (coded_at array codes) i (most - i)) ≡ cond (delivered s here) (given_of t s own open' here ∷ more) more
    unfolding givens_of keep
    first h = ap (givens_of t s own open') (tabulate_here (coded_at array codes) i most h) ∙ by (delivered s here)
      where
        by : (b : Bool)
            → map (given_of t s own open') (cond b (here ∷ keep (delivered s) (tabulate (coded_at array codes) (i + 1) (most - (i + 1)))) (keep (delivered s) (tabulate (coded_at array codes) (i + 1) (most - (i + 1)))))
            ≡ cond b (given_of t s own open' here ∷ more) more
        by true = refl
        by false = refl

    module _ (h : i < most) (a : Attr) (ea : a ≡ attr_in array i) (b : Bool) (eb : b ≡ is_declaration (kind_of s a.name)) where
      says : delivered s here ≡ not b
      says = rw (eb, ea)

      pub turn_left : not b ≡ false → (r : List ℕ) → r ≡ l → (n' : ℕ) → n' ≡ n → Holding t s own open' array codes most gs l₀ r n' (i + 1)
      turn_left q r er n' en =
          record {
            held = d.held;
            counted = d.counted ∙ sym en;
            few = omega (arith, d.few);
            within = omega arith;
            most_few = d.most_few;
            long = ap (λ (x : List ℕ). length x) er ∙ d.long;
            laid = er ∙ d.laid;
            left = ap (λ (x : List Given). d.held ++ x) (sym (first h ∙ rw (says, q))) ∙ d.left;
          }

      pub turn_held : not b ≡ true → (code : ℕ) → code ≡ get_or codes i 0 → (w : Placing) → w ≡ placing_of (space_of t s (namespace_of own open' code))
          → (r : List ℕ) → r ≡ overwrite l (8 * n) (given_numbers (given_by a w code)) → (n' : ℕ) → n' ≡ n + 1 → Holding t s own open' array codes most gs l₀ r n' (i + 1)
      turn_held q code ec w ew r er n' en =
          let g : Given = given_of t s own open' here in
          let eg : given_by a w code ≡ g = rw (ew, ec, ea) in
          record {
            held = d.held ++ (g ∷ []);
            counted = length-append d.held (g ∷ []) ∙ omega (arith, d.counted);
            few = omega (arith, d.few);
            within = omega arith;
            most_few = d.most_few;
            long =
                ap (λ (x : List ℕ). length x) er
                ∙ length_over l (8 * n) (given_numbers (given_by a w code)) (omega (arith, d.few, d.most_few, d.long))
                ∙ d.long;
            laid =
                er ∙ ap (λ (x : Given). overwrite l (8 * n) (given_numbers x)) eg
                ∙ ap (λ (x : List ℕ). overwrite x (8 * n) (given_numbers g)) d.laid
                ∙ ap (λ (k : ℕ). overwrite (laid_givens d.held l₀) (8 * k) (given_numbers g)) (sym d.counted)
                ∙ laid_more l₀ d.held g;
            left = append_assoc d.held (g ∷ []) more ∙ ap (λ (x : List Given). d.held ++ x) (sym (first h ∙ rw (says, q))) ∙ d.left;
          }

    pub ended : most ≤ i → (n ≡ length gs) × (n ≤ 16) × (l ≡ laid_givens gs l₀)
    unfolding givens_of keep
    ended h =
        let e : d.held ≡ gs =
        sym (append-nil d.held) ∙ ap (λ (x : List Coded). d.held ++ givens_of t s own open' x) (sym (tabulate_done (coded_at array codes) i most h)) ∙ d.left in
        (sym d.counted ∙ ap (λ (x : List Given). length x) e, omega (arith, d.few, d.within, d.most_few), d.laid ∙ ap (λ (x : List Given). laid_givens x l₀) e)

-- ---- what was laid is read again
-- numbers that 32 bits hold, and a class of one byte
pub record GivenSmall (g : Given) : Type 0 where
  pub part_at : g.part.at < 2 ^ 32
  pub part_len : g.part.len < 2 ^ 32
  pub value_at : g.value.at < 2 ^ 32
  pub value_len : g.value.len < 2 ^ 32
  pub class_in_lem : g.class < 256
  pub uri_at_lem : g.uri.at < 2 ^ 32
  pub uri_len_lem : g.uri.len < 2 ^ 32
  pub code_in : g.code < 2 ^ 32

-- the i-th attribute, behind i others
read_one : (pre : List ℕ) (g : Given) (post : List ℕ) (i : ℕ) → length pre ≡ 8 * i → GivenSmall g → given_in (pre ++ (given_numbers g ++ post)) i ≡ g
unfolding given_in
read_one pre g post i e p =
    rw (
      at 0 (8 * i) (omega arith),
      at 1 (8 * i + 1) (omega arith),
      at 2 (8 * i + 2) (omega arith),
      at 3 (8 * i + 3) (omega arith),
      at 4 (8 * i + 4) (omega arith),
      at 5 (8 * i + 5) (omega arith),
      at 6 (8 * i + 6) (omega arith),
      at 7 (8 * i + 7) (omega arith),
      mod-eq_of_lt {n = g.part.at} {m = 2 ^ 32} p.part_at,
      mod-eq_of_lt {n = g.part.len} {m = 2 ^ 32} p.part_len,
      mod-eq_of_lt {n = g.value.at} {m = 2 ^ 32} p.value_at,
      mod-eq_of_lt {n = g.value.len} {m = 2 ^ 32} p.value_len,
      mod-eq_of_lt {n = g.class} {m = 2 ^ 32} (omega (arith, p.class_in_lem)),
      mod-eq_of_lt {n = g.class} {m = 2 ^ 8} p.class_in_lem,
      mod-eq_of_lt {n = g.uri.at} {m = 2 ^ 32} p.uri_at_lem,
      mod-eq_of_lt {n = g.uri.len} {m = 2 ^ 32} p.uri_len_lem,
      mod-eq_of_lt {n = g.code} {m = 2 ^ 32} p.code_in,
    )
  where
    at : (j k : ℕ) → k ≡ length pre + j → get_or (pre ++ (given_numbers g ++ post)) k 0 ≡ get_or (given_numbers g ++ post) j 0
    at j k q = ap (λ (n : ℕ). get_or (pre ++ (given_numbers g ++ post)) n 0) q ∙ get_or-append-add pre (given_numbers g ++ post) j 0

read_all : (gs : List Given) (pre post : List ℕ) (i : ℕ) → length pre ≡ 8 * i → All GivenSmall gs
    → tabulate (given_in (pre ++ (gather given_numbers gs ++ post))) i (length gs) ≡ gs
unfolding tabulate gather
read_all [] pre post i e h = refl
read_all (g ∷ gs) pre post i e h =
    let more : List ℕ = gather given_numbers gs ++ post in
    let q : length (pre ++ given_numbers g) ≡ 8 * suc i = length-append pre (given_numbers g) ∙ omega arith in
    ap (λ (x : Given). x ∷ tabulate (given_in (pre ++ (given_numbers g ++ more))) (suc i) (length gs)) (read_one pre g more i e h.0)
    ∙ ap (λ (t : List Given). g ∷ t)
    (ap (λ (l : List ℕ). tabulate (given_in l) (suc i) (length gs)) (sym (append_assoc pre (given_numbers g) more)) ∙ read_all gs (pre ++ given_numbers g) post (suc i) q h.1)

pub givens_back : (gs : List Given) (l : List ℕ) → All GivenSmall gs → tabulate (given_in (laid_givens gs l)) 0 (length gs) ≡ gs
unfolding laid_givens
givens_back gs l p = read_all gs [] (drop (8 * length gs) l) 0 refl p

pub namespaces_back : (own open' : List ℕ) (gs : List Given) (l : List ℕ) → All GivenSmall gs → code_namespaces own open' (tabulate (given_in (laid_givens gs l)) 0 (length gs)) ≡ code_namespaces own open' gs
namespaces_back own open' gs l p = ap (code_namespaces own open') (givens_back gs l p)
