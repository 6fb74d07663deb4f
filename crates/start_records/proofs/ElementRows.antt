-- The records of an element's start along its strands, written one after the other.
--     element_none, element_laid     along one strand: where no unit gets them; where one does
--     elements_holds, -on, -done     a loop that writes them along all
use Prim.Native.Nat.{ℕ, ◌+◌, ◌-◌, ◌/◌, ◌%◌, ◌^◌, ◌≤◌, ◌<◌}
use mathlib.Core.Path.{◌≡◌, refl, sym, ap, ◌∙◌}
use mathlib.Core.List.{List, [], ◌∷◌, ◌++◌, map, map-append}
use mathlib.Core.Bool.{Bool, true, false, cond, not}
use mathlib.Core.Option.{Option, none, some}
use native.Mathlib.Omega.{arith}
use lib.Dec.{eqb}
use borrow.Author.Tests.{not-true, not-false}
use Rattle.laws.specs.Lists.{tabulate, keep}
use Rattle.laws.specs.Gather.{gather}
use Rattle.laws.proofs.Flags.{differ}
use Rattle.laws.proofs.Lists.{tabulate_here, tabulate_done}
use Rattle.table.specs.Table.{action_of}
use Rattle.table.specs.declared.Action.{Action}
use Rattle.table.specs.declared.Action.TheVariants.{Attach, Unwrap, Validate}
use Rattle.reader.specs.Spans.{span}
use Rattle.model.specs.Theory.{Piece, holds, Record}
use Rattle.model.specs.Stream.{Entry, receiver, give}
use Rattle.model.specs.Records.{Body, plain}
use Rattle.records.specs.declared.Row.{Row}
use Rattle.records.specs.Rows.{Laid, laid_row, laid_if, laid_rows}
use Rattle.records.proofs.Laid.{rows_none, rows_append, rows_if}
use Rattle.strands.specs.Packed.{strand_in, receives, is_unit, target_in}
use Rattle.strands.specs.Entries.{entry_in, entries_in}
use Rattle.attributes.specs.Attributes.{Sorted}
use Rattle.strands.specs.Writing.{row_for, row_of, keeps, opens_with, sorted_bodies, element_records}
use Rattle.start_records.proofs.UnitRows.{held_rows, rows_cons, rows_on, rows_done}

-- ---- the unit that gets them
pub give_none : (o : Option ℕ) (ps : List (Piece Body)) → is_unit o ≡ false → give o ps ≡ []
give_none none ps e = refl
give_none (some u) ps e = absurd (differ e)

receiver_some : (a : Action) (b : Bool) (u : ℕ) → is_unit (receiver a (cond b (some u) none)) ≡ true → receiver a (cond b (some u) none) ≡ some u
receiver_some Attach true u e = refl
receiver_some Attach false u e = absurd (differ (sym e))
receiver_some Unwrap b u e = absurd (differ (sym e))
receiver_some Validate true u e = refl
receiver_some Validate false u e = absurd (differ (sym e))

pub receives_target : (w : ℕ) → is_unit (receives (strand_in w)) ≡ true → receives (strand_in w) ≡ some (target_in w)
unfolding strand_in
receives_target w e = receiver_some (action_of (w / 2 ^ 5 % 2 ^ 2)) (eqb (w / 2 ^ 8 % 2) 1) (target_in w) e

-- ---- along one strand
module _ (unit schema at : ℕ) (begun : Body) (bodies : List Body) where
  abbrev open_row : Row
  open_row = row_for unit (plain 0 schema (span at 0))

  given_rows : (here : Bool) → map row_of (give (some unit) (opens_with at schema here ++ map holds (begun ∷ bodies))) ≡ cond here (open_row ∷ []) [] ++ (row_for unit begun ∷ map (row_for unit) bodies)
  given_rows true = ap (λ (rs : List Row). open_row ∷ row_for unit begun ∷ rs) (held_rows unit bodies)
  given_rows false = ap (λ (rs : List Row). row_for unit begun ∷ rs) (held_rows unit bodies)

  given_laid : (here : Bool) (w₀ w₁ w₂ w₃ : Laid) → w₁ ≡ laid_if here w₀ open_row → w₂ ≡ laid_row w₁ (row_for unit begun) → w₃ ≡ laid_rows w₂ (map (row_for unit) bodies)
      → w₃ ≡ laid_rows w₀ (map row_of (give (some unit) (opens_with at schema here ++ map holds (begun ∷ bodies))))
  given_laid here w₀ w₁ w₂ w₃ e₁ e₂ e₃ =
      e₃
      ∙ ap (λ (x : Laid). laid_rows x (map (row_for unit) bodies)) e₂
      ∙ sym (rows_cons w₁ (row_for unit begun) (map (row_for unit) bodies))
      ∙ ap (λ (x : Laid). laid_rows x (row_for unit begun ∷ map (row_for unit) bodies)) (e₁ ∙ rows_if w₀ here open_row)
      ∙ sym (rows_append w₀ (cond here (open_row ∷ []) []) (row_for unit begun ∷ map (row_for unit) bodies))
      ∙ ap (laid_rows w₀) (sym (given_rows here))

module _ (index : List ℕ) (at : ℕ) (begun : Body) (l : List Sorted) (word schema : ℕ) (b : Bool) (e : b ≡ is_unit (receives (strand_in word))) where
  pub element_none : (w : Laid) → not b ≡ true → w ≡ laid_rows w (map row_of (element_records index at begun l (record { strand = strand_in word; schema = schema })))
  unfolding element_records
  element_none w h =
      sym (rows_none w)
      ∙ ap (λ (rs : List (Record Body ℕ)). laid_rows w (map row_of rs))
      (sym (give_none (receives (strand_in word))
      (opens_with at schema (strand_in word).here ++ map holds (begun ∷ gather sorted_bodies (keep (keeps index (strand_in word).mode) l)))
      (sym e ∙ not-true b h)))

  pub element_laid : not b ≡ false → (unit mode : ℕ) (here : Bool) → unit ≡ target_in word → mode ≡ (strand_in word).mode → here ≡ (strand_in word).here
      → (w₀ w₁ w₂ w₃ : Laid)
      → w₁ ≡ laid_if here w₀ (row_for unit (plain 0 schema (span at 0)))
      → w₂ ≡ laid_row w₁ (row_for unit begun)
      → w₃ ≡ laid_rows w₂ (map (row_for unit) (gather sorted_bodies (keep (keeps index mode) l)))
      → w₃ ≡ laid_rows w₀ (map row_of (element_records index at begun l (record { strand = strand_in word; schema = schema })))
  unfolding element_records
  element_laid h unit mode here u m k w₀ w₁ w₂ w₃ e₁ e₂ e₃ =
      let r : receives (strand_in word) ≡ some unit = receives_target word (sym e ∙ not-false b h) ∙ ap some (sym u) in
      given_laid unit schema at begun (gather sorted_bodies (keep (keeps index mode) l)) here w₀ w₁ w₂ w₃ e₁ e₂ e₃
      ∙ ap (λ (x : Bool). laid_rows w₀ (map row_of (give (some unit) (opens_with at schema x ++ map holds (begun ∷ gather sorted_bodies (keep (keeps index mode) l)))))) k
      ∙ ap (λ (x : ℕ). laid_rows w₀ (map row_of (give (some unit) (opens_with at schema (strand_in word).here ++ map holds (begun ∷ gather sorted_bodies (keep (keeps index x) l)))))) m
      ∙ ap (λ (o : Option ℕ). laid_rows w₀ (map row_of (give o (opens_with at schema (strand_in word).here ++ map holds (begun ∷ gather sorted_bodies (keep (keeps index (strand_in word).mode) l)))))) (sym r)

-- ---- along all strands
module _ (records : Entry → List (Record Body ℕ)) (words schemas : List ℕ) (n : ℕ) where
  -- the rows along those from the i-th on
  abbrev pub element_rows : ℕ → List Row
  element_rows i = map row_of (gather records (tabulate (entry_in words schemas) i (n - i)))

  pub elements_holds : (w : Laid) → laid_rows w (element_rows 0) ≡ laid_rows w (map row_of (gather records (entries_in words schemas n)))
  unfolding entries_in
  elements_holds w = let e : n - 0 ≡ n = omega arith in ap (λ (k : ℕ). laid_rows w (map row_of (gather records (tabulate (entry_in words schemas) 0 k)))) e

  elements_here : (i : ℕ) → i < n → element_rows i ≡ map row_of (records (entry_in words schemas i)) ++ element_rows (i + 1)
  unfolding gather
  elements_here i h =
      ap (λ (es : List Entry). map row_of (gather records es)) (tabulate_here (entry_in words schemas) i n h)
      ∙ map-append row_of (records (entry_in words schemas i)) (gather records (tabulate (entry_in words schemas) (i + 1) (n - (i + 1))))

  pub elements_on : (v w w' : Laid) (i : ℕ) → laid_rows w (element_rows i) ≡ v → i < n → w' ≡ laid_rows w (map row_of (records (entry_in words schemas i))) → laid_rows w' (element_rows (i + 1)) ≡ v
  elements_on v w w' i e h g = rows_on v w w' (element_rows i) (map row_of (records (entry_in words schemas i))) (element_rows (i + 1)) e (elements_here i h) g

  pub elements_done : (v w : Laid) (i : ℕ) → laid_rows w (element_rows i) ≡ v → n ≤ i → w ≡ v
  unfolding gather
  elements_done v w i e h = rows_done v w (element_rows i) e (ap (λ (es : List Entry). map row_of (gather records es)) (tabulate_done (entry_in words schemas) i n h))
