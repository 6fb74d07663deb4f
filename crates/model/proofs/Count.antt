-- How many records an event writes, computed without writing them: sums over strands.
use mathlib.Core.Path.{◌≡◌, refl, sym, ap, ap₂, ◌∙◌}
use mathlib.Core.Bool.{Bool, true, false, cond}
use mathlib.Core.List.{List, [], ◌∷◌, ◌++◌, map}
use mathlib.Core.Option.{Option, none, some}
use Prim.Native.Nat.{ℕ, suc, ◌+◌}
use native.Mathlib.Omega.{arith}
use lib.ListN.{length, length-append, length-map}
use Rattle.laws.specs.Gather.{gather, total}
use Rattle.laws.proofs.Gather.{total_gathered}
use Rattle.model.specs.Theory.{AttributeUnit, Piece, opens, holds, Record, Theory}
use Rattle.model.specs.Tree.{TreeEvent, start, text, end}
use Rattle.model.specs.Stream.{Level, State, Entry, entries_at, units_of, entered, new_units, start_records, text_records, end_records, written, after, HeldStrand, receiver, give, attributes_from, opening, closing}
use Rattle.model.proofs.Steps.{units_after}

-- n records, if the strand delivers.
abbrev pub delivered : {U : Type 0} → HeldStrand U → ℕ → ℕ
delivered s n = elim (receiver s.action s.target) [ none ↦ 0 | some u ↦ n ]

-- An attribute unit: open, what stands in it, close.
abbrev pub attribute_count : {B : Type 0} → AttributeUnit B → ℕ
attribute_count a = 2 + length a.held

module _ (Θ : Theory) where
  -- The records of an event: of each strand's attribute units; per strand an open if new, the start and its attributes; a text; an end, and a close if the unit opened here.
  abbrev pub count_of : State Θ → TreeEvent Θ → ℕ
  count_of z (start σ) =
      total (λ e. total attribute_count (Θ.attribute_units e.strand.mode σ)) (entries_at Θ z.levels σ)
      + total (λ e. delivered e.strand (cond e.strand.here 1 0 + length (Θ.start_bodies e.strand.mode σ))) (entered Θ z σ)
  count_of z (text τ) = elim z.levels [ [] ↦ 0 | ◌∷◌ l ls ↦ total (λ s. delivered s 1) l.strands ]
  count_of z (end ε) = elim z.levels [ [] ↦ 0 | ◌∷◌ l ls ↦ total (λ s. delivered s (cond s.here 2 1)) l.strands ]

-- Lengths.
module _ {A B : Type 0} where
  pub length_gathered : (f : A → List B) (g : A → ℕ) → ((x : A) → length (f x) ≡ g x) → (xs : List A) → length (gather f xs) ≡ total g xs
  unfolding gather total
  length_gathered f g h [] = refl
  length_gathered f g h (x ∷ xs) = length-append (f x) (gather f xs) ∙ rw (h x, length_gathered f g h xs)

module _ {B U : Type 0} where
  pub length_give : (t : Option U) (ps : List (Piece B)) → length (give t ps) ≡ elim t [ none ↦ 0 | some u ↦ length ps ]
  length_give none ps = refl
  length_give (some u) ps = length-map ps (λ p. record { unit = u; piece = p })

  pub length_attributes : (ν : ℕ → U) (j : ℕ) (xs : List (AttributeUnit B)) → length (attributes_from ν j xs) ≡ total attribute_count xs
  unfolding total
  length_attributes ν j [] = refl
  length_attributes ν j (a ∷ rest) =
      let pieces : List (Piece B) = map holds (a.held ++ (a.closing ∷ [])) in
      let n : length pieces ≡ length a.held + 1 = length-map (a.held ++ (a.closing ∷ [])) holds ∙ length-append a.held (a.closing ∷ []) in
      length-append (give (some (ν j)) (opens a.opening ∷ pieces)) (attributes_from ν (suc j) rest)
      ∙ omega (arith, n, length_give (some (ν j)) (opens a.opening ∷ pieces), length_attributes ν (suc j) rest)

module _ (Θ : Theory) where
  -- How many records an event writes.
  pub count_of_records : (z : State Θ) (e : TreeEvent Θ) → count_of Θ z e ≡ length (written Θ z e)
  unfolding written
  count_of_records z (start σ) =
      let es = entries_at Θ z.levels σ in
      let attributes : length (attributes_from (λ n. n) z.units (units_of Θ σ es)) ≡ total (λ e. total attribute_count (Θ.attribute_units e.strand.mode σ)) es =
      length_attributes (λ n. n) z.units (units_of Θ σ es) ∙ total_gathered attribute_count (λ (e : Entry). Θ.attribute_units e.strand.mode σ) (λ (e : Entry). total attribute_count (Θ.attribute_units e.strand.mode σ)) (λ e. refl) es in
      let starts = length_gathered (start_records Θ σ) (λ e. delivered e.strand (cond e.strand.here 1 0 + length (Θ.start_bodies e.strand.mode σ)))
      (λ e. one (receiver e.strand.action e.strand.target) e.strand.here e.schema (Θ.start_bodies e.strand.mode σ)) (entered Θ z σ) in
      sym (length-append (attributes_from (λ n. n) z.units (units_of Θ σ es)) (gather (start_records Θ σ) (entered Θ z σ)) ∙ ap₂ (λ m n. m + n) attributes starts)
    where
      one : (t : Option ℕ) (b : Bool) (schema : ℕ) (bs : List Θ.Body) → length (give t (opening Θ σ schema b ++ map holds bs)) ≡ elim t [ none ↦ 0 | some u ↦ cond b 1 0 + length bs ]
      one none b schema bs = refl
      one (some u) false schema bs = omega (arith, length_give (some u) (map holds bs), length-map bs holds)
      one (some u) true schema bs = omega (arith, length_give (some u) (map holds bs), length-map bs holds)
  count_of_records z (text τ) = go z.levels
    where
      go : (ls : List (Level Θ)) → elim ls [ [] ↦ 0 | ◌∷◌ l ls ↦ total (λ s. delivered s 1) l.strands ] ≡ length {A = Record Θ.Body ℕ} (elim ls [ [] ↦ [] | ◌∷◌ l ls ↦ gather (text_records Θ τ) l.strands ])
      go [] = refl
      go (l ∷ ls) = sym (length_gathered (text_records Θ τ) (λ s. delivered s 1) (λ s. length_give (receiver s.action s.target) (holds (Θ.text_body τ) ∷ [])) l.strands)
  count_of_records z (end ε) = go z.levels
    where
      one : (κ : Θ.Kept) (t : Option ℕ) (b : Bool) → length (give t (holds (Θ.end_body κ ε) ∷ closing Θ b)) ≡ elim t [ none ↦ 0 | some u ↦ cond b 2 1 ]
      one κ none b = refl
      one κ (some u) true = refl
      one κ (some u) false = refl

      go : (ls : List (Level Θ)) → elim ls [ [] ↦ 0 | ◌∷◌ l ls ↦ total (λ s. delivered s (cond s.here 2 1)) l.strands ] ≡ length {A = Record Θ.Body ℕ} (elim ls [ [] ↦ [] | ◌∷◌ l ls ↦ gather (end_records Θ l.at ε) l.strands ])
      go [] = refl
      go (l ∷ ls) = sym (length_gathered (end_records Θ l.at ε) (λ s. delivered s (cond s.here 2 1)) (λ s. one l.at (receiver s.action s.target) s.here) l.strands)

  -- The units after a start: those before, each strand's attribute units, the strands' new units.
  pub units_counted : (z : State Θ) (σ : Θ.StartInfo)
      → (after Θ z (start σ)).units ≡ z.units + total (λ e. length (Θ.attribute_units e.strand.mode σ)) (entries_at Θ z.levels σ) + total (λ e. cond e.strand.here 1 0) (entries_at Θ z.levels σ)
  units_counted z σ =
      units_after Θ z σ
      ∙ ap (λ n. z.units + n + new_units (entries_at Θ z.levels σ)) (length_gathered (λ (e : Entry). Θ.attribute_units e.strand.mode σ) (λ e. length (Θ.attribute_units e.strand.mode σ)) (λ e. refl) (entries_at Θ z.levels σ))
