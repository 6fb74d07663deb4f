-- The classes that are kept beside the bindings.
--     class_byte                                a class is below 256
--     classes_none, classes_put                 the loop of `put_classes`
--     classes_laid, classes_kept                an array that has them
--     Placed, placed-*                          the namespace of what was found
--     most_is, code_within, coded_at_lem            the codes of a tag's attributes
--     Holds, begin_holds, turn-*, ended_holds   the loop of `hold`
use Prim.Native.Nat.{ℕ, zero, suc, min, ◌+◌, ◌*◌, ◌-◌, ◌%◌, ◌≤◌, ◌<◌}
use mathlib.Core.Path.{◌≡◌, refl, sym, ap, ◌∙◌}
use mathlib.Core.List.{List, [], ◌∷◌, ◌++◌}
use mathlib.Core.Bool.{Bool, true, false, cond, not}
use mathlib.Core.Logic.{◌⊎◌, inl, inr, ⊎_elim}
use native.Mathlib.Omega.{arith}
use native.Mathlib.Nat.{add-zero, mod-eq_of_lt, not-suc-le-zero}
use native.Mathlib.Numerals.{add-one}
use borrow.Author.Tests.{le-leb, lt-leb, ltb-true, ltb-false, eqb-true}
use lib.ListN.{length, get_or, set, drop}
use lib.Dec.{eqb, ltb}
use Rattle.laws.specs.Lists.{same_list, tabulate}
use Rattle.laws.specs.Members.{All}
use Rattle.laws.specs.Reading.{le_or_lt}
use Rattle.laws.specs.Over.{overwrite}
use Rattle.laws.proofs.Over.{over_none, length_over, over_set, get_d_over_before, get_d_over_in, get_d_over_after}
use Rattle.laws.proofs.Lists.{length_tabulate, get_d_tabulate}
use Rattle.compare.specs.Compare.{xml_uri}
use Rattle.table.specs.Table.{Table, table_of, uris_of, listed_from, class_of}
use Rattle.table.specs.declared.Header.{Header}
use Rattle.table.proofs.Namespaces.{uris_few}
use Rattle.lexer.specs.declared.Attr.{Attr}
use Rattle.lexer.specs.Attrs.{attr_in, attrs_in}
use Rattle.reader.specs.declared.Binding.{Binding}
use Rattle.reader.specs.declared.Span.{Span}
use Rattle.reader.specs.declared.Found.{Found}
use Rattle.reader.specs.declared.Found.TheVariants as variant
use Rattle.reader.specs.Spans.{bytes_of, kind_of}
use Rattle.reader.specs.Namespaces.{declared}
use Rattle.reader.specs.Stored.{Coded, coded, at_most, found_in, binding_in, stored_space, is_declaration}
use Rattle.reader.specs.Known.{Within}
use Rattle.reader.proofs.Indexed.{at_most_le, tab_last}
use Rattle.model.specs.Elements.{space_of}
use Rattle.attributes.specs.declared.Placing.{Placing}
use Rattle.attributes.specs.Attributes.{given_numbers, given_by, placing_of, givens_of, laid_givens}
use Rattle.attributes.specs.Known.{classes_in, ClassesAt, placed_by}
use Rattle.attributes.proofs.Giving.{placing, placing_nothing, placing_xml, placing_unbound, coded_at, coded_tabulate, Holding, begin, turn_left, turn_held, ended}
use Rattle.attributes.proofs.Numbering.{map_tabulate}

-- ---- a class is a byte
listed_few : (us : List (List ℕ)) (k : ℕ) (u : List ℕ) → k + length us ≤ 256 → listed_from us k u < 256
unfolding listed_from
listed_few [] k u h = omega arith
listed_few (x ∷ us) k u h = by (same_list x u) (listed_few us (k + 1) u (omega arith))
  where
    by : (b : Bool) → listed_from us (k + 1) u < 256 → cond b k (listed_from us (k + 1) u) < 256
    by true q = omega arith
    by false q = q

pub class_byte : (table : List ℕ) (header : Header) → header.namespaces < 256 → (u : List ℕ) → class_of (table_of table header) u < 256
unfolding class_of
class_byte table header few u =
    by (eqb (length u) 0) (same_list u xml_uri)
    (listed_few (uris_of table header) 1 u (omega (arith, uris_few header.namespaces (drop (4 + 4 * header.rules) table))))
  where
    by : (a b : Bool) → listed_from (uris_of table header) 1 u < 256 → cond a 0 (cond b 254 (listed_from (uris_of table header) 1 u)) < 256
    by true b q = omega arith
    by false true q = omega arith
    by false false q = q

-- ---- the classes of an array's bindings
module _ (t : Table) (s l : List ℕ) where
  abbrev class_at : ℕ → ℕ
  class_at k = class_of t (bytes_of s (binding_in l k).uri)

  classes_tab : (n : ℕ) → classes_in t s l n ≡ tabulate class_at 0 n
  classes_tab n = map_tabulate (λ (b : Binding). class_of t (bytes_of s b.uri)) (binding_in l) 0 n

  pub classes_long : (n : ℕ) → length (classes_in t s l n) ≡ n
  classes_long n = ap (λ (x : List ℕ). length x) (classes_tab n) ∙ length_tabulate class_at 0 n

  pub classes_at : (n k : ℕ) → k < n → get_or (classes_in t s l n) k 0 ≡ class_at k
  classes_at n k h =
      let q : 0 + k ≡ k = omega arith in
      ap (λ (x : List ℕ). get_or x k 0) (classes_tab n) ∙ get_d_tabulate class_at 0 n k 0 h ∙ ap class_at q

  classes_more : (k : ℕ) → classes_in t s l (k + 1) ≡ classes_in t s l k ++ (class_at k ∷ [])
  classes_more k =
      classes_tab (k + 1) ∙ ap (tabulate class_at 0) (add-one k) ∙ tab_last class_at k
      ∙ ap (λ (x : List ℕ). x ++ (class_at k ∷ [])) (sym (classes_tab k))

  module _ (known₀ : List ℕ) (from : ℕ) where
    pub classes_none : known₀ ≡ overwrite known₀ (80 + from) (classes_in t s l 0)
    unfolding tabulate
    classes_none = sym (over_none known₀ (80 + from))

    pub classes_put : (known : List ℕ) (k class : ℕ) → known ≡ overwrite known₀ (80 + from) (classes_in t s l k) → 80 + from + k < length known₀ → class ≡ class_at k
        → set known (80 + from + k) class ≡ overwrite known₀ (80 + from) (classes_in t s l (k + 1))
    classes_put known k class e h ec =
        let q : 80 + from + k ≡ 80 + from + length (classes_in t s l k) = omega (arith, classes_long k) in
        ap (λ (x : List ℕ). set x (80 + from + k) class) e
        ∙ ap (λ (i : ℕ). set (overwrite known₀ (80 + from) (classes_in t s l k)) i class) q
        ∙ over_set known₀ (80 + from) (classes_in t s l k) class (omega (arith, classes_long k))
        ∙ ap (λ (c : ℕ). overwrite known₀ (80 + from) (classes_in t s l k ++ (c ∷ []))) ec
        ∙ ap (overwrite known₀ (80 + from)) (sym (classes_more k))

    -- an array has the classes that were laid down in it
    pub classes_laid : (known : List ℕ) (n : ℕ) → known ≡ overwrite known₀ (80 + from) (classes_in t s l n) → 80 + from + n ≤ length known₀ → ClassesAt t s l n from known
    classes_laid known n e h k hk =
        ap (λ (x : List ℕ). get_or x (80 + from + k) 0) e
        ∙ get_d_over_in known₀ (80 + from) (classes_in t s l n) k 0 (omega (arith, classes_long n)) (omega arith)
        ∙ classes_at n k hk

  module _ (known : List ℕ) (n from : ℕ) (a : ClassesAt t s l n from known) where
    -- still where the array is overwritten before them or behind them
    pub classes_kept : (i : ℕ) (ys : List ℕ) → i ≤ length known → (i + length ys ≤ 80 + from) ⊎ (80 + from + n ≤ i) → ClassesAt t s l n from (overwrite known i ys)
    classes_kept i ys fits (inl h) k hk =
        let q : 80 + from + k ≡ i + length ys + (80 + from + k - (i + length ys)) = omega arith in
        ap (λ (j : ℕ). get_or (overwrite known i ys) j 0) q
        ∙ get_d_over_after known i ys (80 + from + k - (i + length ys)) 0 fits
        ∙ ap (λ (j : ℕ). get_or known j 0) (sym q) ∙ a k hk
    classes_kept i ys fits (inr h) k hk = get_d_over_before known i ys (80 + from + k) 0 (omega arith) fits ∙ a k hk

-- ---- the namespace of what was found
-- what `space_of` says of its result
abbrev pub Placed : List ℕ → List ℕ → ℕ → List ℕ → Found → Placing → Type 0
Placed own open' bound known f r =
    (table : List ℕ) (header : Header) (s : List ℕ) (owned : ℕ) → header.namespaces < 256
    → ClassesAt (table_of table header) s open' bound 0 known
    → ClassesAt (table_of table header) s own owned bound known
    → Within owned bound f
    → r ≡ placing_of (space_of (table_of table header) s (stored_space own open' f))

pub placed_unlisted : (class : ℕ) (uri : Span) → class ≡ 255 → placing class uri.at uri.len ≡ placed_by class uri
placed_unlisted class uri h = rw h

pub placed_listed : (class : ℕ) (uri : Span) → (class ≡ 255 → ⊥) → placing class 0 0 ≡ placed_by class uri
placed_listed class uri h = by (eqb class 255) refl
  where
    by : (b : Bool) → eqb class 255 ≡ b → placing class 0 0 ≡ placed_by class uri
    by true e = absurd (h (eqb-true class 255 e))
    by false e = rw e

-- by the class that is kept of the k-th of n bindings
module _ (table : List ℕ) (header : Header) (s : List ℕ) (few : header.namespaces < 256) (l known : List ℕ) (n from k : ℕ) (a : ClassesAt (table_of table header) s l n from known) (h : k < n) where
  by_known : (at class : ℕ) (b : Binding) (r : Placing) → at ≡ from + k → class ≡ get_or known (80 + at) 0 % 256 → b ≡ binding_in l k → r ≡ placed_by class b.uri
      → r ≡ placing_of (space_of (table_of table header) s (declared (binding_in l k).uri))
  unfolding space_of
  by_known at class b r ea ec eb er =
      let u : List ℕ = bytes_of s (binding_in l k).uri in
      let q : 80 + at ≡ 80 + from + k = omega arith in
      let e : class ≡ class_of (table_of table header) u =
      ec ∙ ap (λ (j : ℕ). get_or known j 0 % 256) q ∙ ap (λ (x : ℕ). x % 256) (a k h)
      ∙ mod-eq_of_lt {n = class_of (table_of table header) u} {m = 256} (class_byte table header few u) in
      er ∙ ap (λ (x : Binding). placed_by class x.uri) eb ∙ ap (λ (x : ℕ). placed_by x (binding_in l k).uri) e

pub own_few : (f : Found) (k : ℕ) → f ≡ variant.Own k → (m n : ℕ) → Within m n f → k < m
own_few f k e m n w = rw e at w

pub open_few : (f : Found) (k : ℕ) → f ≡ variant.Open k → (m n : ℕ) → Within m n f → k < n
open_few f k e m n w = rw e at w

module _ (own open' : List ℕ) (bound : ℕ) (known : List ℕ) (f : Found) where
  pub placed_nothing : f ≡ variant.Nothing → Placed own open' bound known f (placing 0 0 0)
  placed_nothing e table header s owned few os ws w = placing_nothing (table_of table header) s own open' f e

  pub placed_xml : f ≡ variant.Xml → Placed own open' bound known f (placing 254 0 0)
  placed_xml e table header s owned few os ws w = placing_xml (table_of table header) s own open' f e

  pub placed_unbound : f ≡ variant.Unbound → Placed own open' bound known f (placing 0 0 0)
  placed_unbound e table header s owned few os ws w = placing_unbound (table_of table header) s own open' f e

  module _ (k class : ℕ) (b : Binding) (r : Placing) (er : r ≡ placed_by class b.uri) where
    pub placed_own : f ≡ variant.Own k → b ≡ binding_in own k → class ≡ get_or known (80 + (bound + k)) 0 % 256 → Placed own open' bound known f r
    placed_own e eb ec table header s owned few os ws w =
        by_known table header s few own known owned bound k ws (own_few f k e owned bound w) (bound + k) class b r refl ec eb er
        ∙ ap (λ (g : Found). placing_of (space_of (table_of table header) s (stored_space own open' g))) (sym e)

    pub placed_open : f ≡ variant.Open k → b ≡ binding_in open' k → class ≡ get_or known (80 + k) 0 % 256 → Placed own open' bound known f r
    placed_open e eb ec table header s owned few os ws w =
        by_known table header s few open' known bound 0 k os (open_few f k e owned bound w) k class b r (omega arith) ec eb er
        ∙ ap (λ (g : Found). placing_of (space_of (table_of table header) s (stored_space own open' g))) (sym e)

-- ---- codes
-- how many attributes a tag's array can have
pub most_is : (count most : ℕ) → most ≡ min count 16 → most ≡ at_most 16 count
most_is count most e = ⊎_elim (λ h. rw (le-leb count 16 h) (omega arith)) (λ h. rw (lt-leb count 16 h) (omega arith)) (le_or_lt count 16)

pub code_within : (code : ℕ) → code < 82 → (f : Found) → f ≡ found_in code → Within 16 64 f
code_within code h f ef = rw ef (by (eqb code 0) (eqb code 1) (ltb code 18) refl)
  where
    by : (a b d : Bool) → ltb code 18 ≡ d → Within 16 64 (cond a variant.Nothing (cond b variant.Xml (cond d (variant.Own (code - 2)) (variant.Open (code - 18)))))
    by true b d e = tt
    by false true d e = tt
    by false false true e = omega (arith, ltb-true code 18 e)
    by false false false e = omega (arith, ltb-false code 18 e)

all_tab : {A : Type 0} (P : A → Type 0) (f : ℕ → A) (k n i : ℕ) → All P (tabulate f k n) → i < n → P (f (k + i))
unfolding tabulate
all_tab P f k zero i h q = absurd (not-suc-le-zero q)
all_tab P f k (suc n) zero h q = rw (add-zero k) h.0
all_tab P f k (suc n) (suc i) h q =
    let e : suc k + i ≡ k + suc i = omega arith in
    rw e at (all_tab P f (suc k) n i h.1 (omega arith))

-- what holds of each attribute with its code holds of the i-th
pub coded_at_lem : (P : Coded → Type 0) (array codes : List ℕ) (count most i : ℕ) → most ≡ at_most 16 count → i < most → All P (coded (attrs_in array count) codes) → P (coded_at array codes i)
coded_at_lem P array codes count most i e h a =
    let z : 0 + i ≡ i = omega arith in
    rw z at (all_tab P (coded_at array codes) 0 most i (rw (coded_tabulate array codes count most e) at a) h)

-- ---- the loop of `hold`
module _ (s own open' : List ℕ) (bound : ℕ) (known array : List ℕ) (count : ℕ) (codes : List ℕ) (most : ℕ) (l₀ : List ℕ) where
  abbrev pub cs : List Coded
  cs = coded (attrs_in array count) codes

  -- of any table and so many declarations of the tag whose classes are kept
  abbrev pub Each : List ℕ → ℕ → ℕ → Type 0
  Each l n i =
      (table : List ℕ) (header : Header) (owned : ℕ) → header.namespaces < 256
      → ClassesAt (table_of table header) s open' bound 0 known
      → ClassesAt (table_of table header) s own owned bound known
      → All (λ (c : Coded). Within owned bound (found_in c.code)) cs
      → Holding (table_of table header) s own open' array codes most (givens_of (table_of table header) s own open' cs) l₀ l n i

  pub record Holds (l : List ℕ) (n i : ℕ) : Type 0 where
    pub few : n ≤ i
    pub within : i ≤ most
    pub most_few : most ≤ 16
    pub long : length l ≡ 144
    pub each : Each l n i

  module _ (em : most ≡ at_most 16 count) where
    pub begin_holds : length l₀ ≡ 144 → Holds l₀ 0 0
    begin_holds long =
        record {
          few = omega arith;
          within = omega arith;
          most_few = at_most_le 16 count most em;
          long = long;
          each = λ table header owned small os ws w. begin (table_of table header) s own open' array codes most (givens_of (table_of table header) s own open' cs) l₀ count refl em long;
        }

    module _ (l : List ℕ) (n i : ℕ) (d : Holds l n i) (h : i < most) (a : Attr) (ea : a ≡ attr_in array i) (b : Bool) (eb : b ≡ is_declaration (kind_of s a.name)) where
      pub turn_over : not b ≡ false → (r : List ℕ) → r ≡ l → (n' : ℕ) → n' ≡ n → Holds r n' (i + 1)
      turn_over q r er n' en =
          record {
            few = omega (arith, d.few);
            within = omega arith;
            most_few = d.most_few;
            long = ap (λ (x : List ℕ). length x) er ∙ d.long;
            each = λ table header owned small os ws w.
                turn_left (table_of table header) s own open' array codes most (givens_of (table_of table header) s own open' cs) l₀ l n i (d.each table header owned small os ws w) h a ea b eb q r er n' en;
          }

      pub turn_put : not b ≡ true → (code : ℕ) → code ≡ get_or codes i 0 → (f : Found) → f ≡ found_in code → (w : Placing) → Placed own open' bound known f w
          → (r : List ℕ) → r ≡ overwrite l (8 * n) (given_numbers (given_by a w code)) → (n' : ℕ) → n' ≡ n + 1 → Holds r n' (i + 1)
      turn_put q code ec f ef w pw r er n' en =
          record {
            few = omega (arith, d.few);
            within = omega arith;
            most_few = d.most_few;
            long =
                ap (λ (x : List ℕ). length x) er
                ∙ length_over l (8 * n) (given_numbers (given_by a w code)) (omega (arith, d.few, d.most_few, d.long))
                ∙ d.long;
            each = λ table header owned small os ws all.
                let there : Within owned bound f =
                rw (ef, ec) (coded_at_lem (λ (c : Coded). Within owned bound (found_in c.code)) array codes count most i em h all) in
                turn_held (table_of table header) s own open' array codes most (givens_of (table_of table header) s own open' cs) l₀ l n i (d.each table header owned small os ws all) h a ea b eb q code ec w (pw table header s owned small os ws there ∙ ap (λ (g : Found). placing_of (space_of (table_of table header) s (stored_space own open' g))) ef) r er n' en;
          }

    pub ended_holds : (l : List ℕ) (n i : ℕ) → Holds l n i → most ≤ i → (n ≤ 16) × (
        (table : List ℕ) (header : Header) (owned : ℕ) → header.namespaces < 256
        → ClassesAt (table_of table header) s open' bound 0 known
        → ClassesAt (table_of table header) s own owned bound known
        → All (λ (c : Coded). Within owned bound (found_in c.code)) cs
        → (n ≡ length (givens_of (table_of table header) s own open' cs)) × (l ≡ laid_givens (givens_of (table_of table header) s own open' cs) l₀))
    ended_holds l n i d h = (
      omega (arith, d.few, d.within, d.most_few),
      λ table header owned small os ws w.
          let r = ended (table_of table header) s own open' array codes most (givens_of (table_of table header) s own open' cs) l₀ l n i (d.each table header owned small os ws w) h in
          (r.0, r.2),
    )
