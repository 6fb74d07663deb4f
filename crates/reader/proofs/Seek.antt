-- A prefix looked up.
--     words_apart                         lists of which eight bytes differ
--     counted_less                        one less, by the library
--     counted_some, counted_none          a place that is counted from 1
--     look_none, look_turn                the clauses of `look_from`, at the code's `left` and `left - 1`
--     look_le                             it is one of them
--     found_xml, found_own, found_open_lem    the ways out of `find_spelled`, by the definition
--     spelled_own, spelled_open           and by the code's answers
use Prim.Native.Nat.{ℕ, zero, suc, ◌+◌, ◌-◌, ◌≤◌, min}
use mathlib.Core.Path.{◌≡◌, refl, sym, ap, ◌∙◌}
use mathlib.Core.List.{List}
use mathlib.Core.Bool.{Bool, true, false, cond}
use native.Mathlib.Omega.{arith}
use borrow.Author.Tests.{eq-eqb, ne_eqb}
use Rattle.std.specs.Prelude.{Option, Some, None, SomeIff}
use lib.ListN.{take, drop}
use Rattle.laws.specs.Lists.{same_list}
use Rattle.lanes.specs.Words.{little_endian}
use Rattle.compare.proofs.Equal.{same_eq}
use Rattle.reader.specs.Spans.{bytes_of, xml_prefix}
use Rattle.reader.specs.Stored.{at_most, binding_in, counted_from_1, look_from, found_open, found_of}
use Rattle.reader.specs.declared.Found.{Found}
use Rattle.reader.specs.declared.Found.TheVariants as found
use Rattle.reader.proofs.Indexed.{min_at_most}

-- lists whose words differ somewhere
pub words_apart : (x y : List ℕ) (i v w : ℕ) → v ≡ little_endian (take 8 (drop i x)) → w ≡ little_endian (take 8 (drop i y)) → (v ≡ w → ⊥) → false ≡ same_list x y
words_apart x y i v w ev ew ne = cases (same_list x y) refl
  where
    cases : (t : Bool) → t ≡ same_list x y → false ≡ same_list x y
    cases true e = absurd (ne (ev ∙ ap (λ (l : List ℕ). little_endian (take 8 (drop i l))) (same_eq x y (sym e)) ∙ sym ew))
    cases false e = e

-- ---- places counted from 1
pub counted_less : (n : ℕ) (o : Option ℕ) → SomeIff o (1 ≤ n) (n - 1) → o ≡ counted_from_1 n
counted_less zero None h = refl
counted_less zero (Some x) h = absurd (let l : 1 ≤ 0 = h.0 in omega arith)
counted_less (suc n) None h = absurd (h (omega arith))
counted_less (suc n) (Some x) h = ap Some (h.1 ∙ omega arith)

pub counted_some : (n k : ℕ) → counted_from_1 n ≡ Some k → n ≡ k + 1
counted_some zero k e = absurd (let z : ◌≡◌ {A = ℕ} 0 1 = cc in omega arith)
counted_some (suc n) k e = let q : n ≡ k = cc in omega arith

pub counted_none : (n : ℕ) → counted_from_1 n ≡ None → n ≡ 0
counted_none zero e = refl
counted_none (suc n) e = absurd (let z : ◌≡◌ {A = ℕ} 0 1 = cc in omega arith)

module _ (s l : List ℕ) (left : ℕ) (prefix : List ℕ) where
  pub look_none : left ≡ 0 → 0 ≡ look_from s l left prefix
  unfolding look_from
  look_none e = ap (λ (k : ℕ). look_from s l k prefix) (sym e)

  pub look_turn : (r : Bool) (x : ℕ) → (left ≡ 0 → ⊥) → r ≡ same_list (bytes_of s (binding_in l (left - 1)).prefix) prefix
      → x ≡ cond r left (look_from s l (left - 1) prefix) → x ≡ look_from s l left prefix
  unfolding look_from
  look_turn r x ne e h =
      let n : suc (left - 1) ≡ left = omega arith in
      h ∙ ap (λ (t : Bool). cond t left (look_from s l (left - 1) prefix)) e
      ∙ ap (λ (k : ℕ). cond (same_list (bytes_of s (binding_in l (left - 1)).prefix) prefix) k (look_from s l (left - 1) prefix)) (sym n)
      ∙ ap (λ (k : ℕ). look_from s l k prefix) n

pub look_le : (s l : List ℕ) (n : ℕ) (p : List ℕ) → look_from s l n p ≤ n
unfolding look_from
look_le s l zero p = omega arith
look_le s l (suc n) p = cases (same_list (bytes_of s (binding_in l n).prefix) p) (look_le s l n p)
  where
    cases : (t : Bool) → look_from s l n p ≤ n → cond t (suc n) (look_from s l n p) ≤ suc n
    cases true h = omega arith
    cases false h = omega arith

-- the ways out of `find_spelled`
module _ (s own : List ℕ) (owned : ℕ) (open' : List ℕ) (bound : ℕ) (prefix : List ℕ) (x : Bool) (ex : x ≡ same_list prefix xml_prefix) where
  pub found_xml : x ≡ true → found.Xml ≡ found_of s own owned open' bound prefix
  unfolding found_of
  found_xml h = rw (← ex, h)

  module _ (m inner : ℕ) (h : x ≡ false) (em : m ≡ at_most 16 owned) (ei : inner ≡ look_from s own m prefix) where
    pub found_own : (inner ≡ 0 → ⊥) → found.Own (inner - 1) ≡ found_of s own owned open' bound prefix
    unfolding found_of
    found_own ne = rw (← ex, h, ← em, ← ei, ne_eqb inner 0 ne)

    pub found_open_lem : (n outer : ℕ) (f : Found) → inner ≡ 0 → n ≡ at_most 64 bound → outer ≡ look_from s open' n prefix → f ≡ found_open prefix outer
        → f ≡ found_of s own owned open' bound prefix
    unfolding found_of
    found_open_lem n outer f e en eo g = rw (← ex, h, ← em, ← ei, eq-eqb inner 0 e, ← en, ← eo) g

  module _ (h : x ≡ false) (mine : Option ℕ) (em : mine ≡ counted_from_1 (look_from s own (min owned 16) prefix)) where
    mine_is : mine ≡ counted_from_1 (look_from s own (at_most 16 owned) prefix)
    mine_is = em ∙ ap (λ (k : ℕ). counted_from_1 (look_from s own k prefix)) (min_at_most 16 owned)

    pub spelled_own : (k : ℕ) → mine ≡ Some k → found.Own k ≡ found_of s own owned open' bound prefix
    spelled_own k e =
        let inner : ℕ = look_from s own (at_most 16 owned) prefix in
        let n : inner ≡ k + 1 = counted_some inner k (sym mine_is ∙ e) in
        let z : k ≡ inner - 1 = omega arith in
        ap found.Own z ∙ found_own (at_most 16 owned) inner h refl refl (λ q. omega arith)

    pub spelled_open : (other : Option ℕ) (f : Found) → mine ≡ None → other ≡ counted_from_1 (look_from s open' (min bound 64) prefix)
        → ((outer : ℕ) → other ≡ counted_from_1 outer → f ≡ found_open prefix outer) → f ≡ found_of s own owned open' bound prefix
    spelled_open other f e eo g =
        let outer : ℕ = look_from s open' (at_most 64 bound) prefix in
        let o : other ≡ counted_from_1 outer = eo ∙ ap (λ (k : ℕ). counted_from_1 (look_from s open' k prefix)) (min_at_most 64 bound) in
        found_open_lem (at_most 16 owned) _ h refl refl (at_most 64 bound) outer f (counted_none _ (sym mine_is ∙ e)) refl refl (g outer o)

-- what was found among the open ones, by its place counted from 1
pub open_some : (prefix : List ℕ) (k outer : ℕ) → Some k ≡ counted_from_1 outer → found.Open k ≡ found_open prefix outer
open_some prefix k outer e = rw (counted_some outer k (sym e), ne_eqb (k + 1) 0 (λ q. omega arith)) (ap found.Open (omega arith))

pub open_none : (prefix : List ℕ) (outer : ℕ) (f : Found) → None ≡ counted_from_1 outer → f ≡ found_open prefix 0 → f ≡ found_open prefix outer
open_none prefix outer f e g = g ∙ ap (found_open prefix) (sym (counted_none outer (sym e)))
