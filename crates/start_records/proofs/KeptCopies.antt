-- The element where a strand keeps some attributes: its rows laid once as words, and those of the attributes that it keeps copied.
--     pair_few                 the first words of an attribute's rows leave room for the unit's
--     start_copied             the row of the start
--     Copying, copying-*       a loop that copies the rows of the attributes that are kept
use Prim.Native.Nat.{ℕ, ◌+◌, ◌-◌, ◌*◌, ◌^◌, ◌≤◌, ◌<◌}
use mathlib.Core.Path.{◌≡◌, refl, sym, ap, ap₂, ◌∙◌, subst}
use mathlib.Core.List.{List, [], ◌∷◌, ◌++◌, map}
use mathlib.Core.Bool.{Bool, true, false}
use native.Mathlib.Nat.{zero-add}
use native.Mathlib.Omega.{arith}
use lib.ListN.{length, get_or}
use Rattle.laws.specs.Lists.{tabulate, keep}
use Rattle.laws.specs.Gather.{gather}
use Rattle.laws.specs.Over.{overwrite}
use Rattle.laws.proofs.Lists.{tabulate_here}
use Rattle.laws.proofs.Gather.{gather_append}
use Rattle.reader.proofs.Tabulated.{tabulate_append}
use Rattle.model.specs.Records.{Body}
use Rattle.records.specs.Rows.{laid, laid_row, laid_rows, unit_word, words_row, InWords}
use Rattle.records.proofs.Laid.{rows_none, rows_one}
use Rattle.attributes.specs.Attributes.{Sorted, sorted_in, all_sorted}
use Rattle.strands.specs.Writing.{row_for, keeps, sorted_bodies, whole_bodies}
use Rattle.start_records.proofs.UnitRows.{kept_rows, kept_holds, kept_on, kept_done}
use Rattle.start_records.proofs.Copies.{bodies_many, part_copied}

pub pair_few : (rows : List ℕ) (unit n k : ℕ) → ((j : ℕ) → j < 2 * n + 1 → get_or rows (2 * j) 0 + unit < 2 ^ 64) → k < n
    → (get_or rows (2 * (2 * k + 1)) 0 + unit < 2 ^ 64) × (get_or rows (2 * (2 * k + 1) + 2) 0 + unit < 2 ^ 64)
pair_few rows unit n k f h =
    let e : 2 * (2 * k + 1) + 2 ≡ 2 * (2 * k + 2) = omega arith in
    (f (2 * k + 1) (omega arith), omega (arith, f (2 * k + 2) (omega arith), ap (λ (i : ℕ). get_or rows i 0) e))

pub start_copied : (rows : List ℕ) (begun : Body) (bodies : List Body) (unit mark : ℕ) (out out' : List ℕ) (place : ℕ)
    → InWords rows (begun ∷ bodies) → mark ≡ unit_word unit → place + 16 ≤ length out
    → out' ≡ overwrite out place (gather (words_row rows mark) (tabulate (λ (i : ℕ). i) 0 1)) → laid out' (place + 16) ≡ laid_row (laid out place) (row_for unit begun)
start_copied rows begun bodies unit mark out out' place w m h g =
    part_copied rows [] (begun ∷ []) bodies unit mark out out' place 0 1 w refl refl m h g ∙ rows_one (laid out place) (row_for unit begun)

-- the rows of the k-th attribute among all
bodies_split : (begun : Body) (attributes sections : List ℕ) (n k : ℕ) → k < n
    → whole_bodies begun (all_sorted attributes sections n)
    ≡ whole_bodies begun (all_sorted attributes sections k) ++ (sorted_bodies (sorted_in attributes sections k) ++ gather sorted_bodies (tabulate (sorted_in attributes sections) (k + 1) (n - (k + 1))))
unfolding gather
bodies_split begun attributes sections n k h =
    let f = sorted_in attributes sections in
    let e : n ≡ k + (n - k) = omega arith in
    ap (whole_bodies begun)
    (ap (tabulate f 0) e
    ∙ tabulate_append f 0 k (n - k)
    ∙ ap (λ (i : ℕ). tabulate f 0 k ++ tabulate f i (n - k)) (zero-add k)
    ∙ ap (λ (l : List Sorted). tabulate f 0 k ++ l) (tabulate_here f k n h))
    ∙ ap (λ (l : List Body). begun ∷ l) (gather_append sorted_bodies (tabulate f 0 k) (f k ∷ tabulate f (k + 1) (n - (k + 1))))

module _ (index : List ℕ) (mode : ℕ) (attributes sections : List ℕ) (n : ℕ) (rows : List ℕ) (unit : ℕ) (out₀ : List ℕ) (from : ℕ) where
  -- those from the k-th on are left
  abbrev pub Copying : List ℕ → ℕ → ℕ → Type 0
  Copying out used k =
      (begun : Body) (target : ℕ) → InWords rows (whole_bodies begun (all_sorted attributes sections n)) → unit ≡ unit_word target
      → laid_rows (laid out used) (kept_rows target (sorted_in attributes sections) (keeps index mode) n k)
      ≡ laid_rows (laid out₀ from) (map (row_for target) (gather sorted_bodies (keep (keeps index mode) (all_sorted attributes sections n))))

  pub copying_start : Copying out₀ from 0
  copying_start begun target w u = kept_holds target (sorted_in attributes sections) (keeps index mode) n (laid out₀ from)

  module _ (out : List ℕ) (used k : ℕ) (y : Copying out used k) where
    pub copying_end : n ≤ k → (begun : Body) (target : ℕ) → InWords rows (whole_bodies begun (all_sorted attributes sections n)) → unit ≡ unit_word target
        → laid out used ≡ laid_rows (laid out₀ from) (map (row_for target) (gather sorted_bodies (keep (keeps index mode) (all_sorted attributes sections n))))
    copying_end h begun target w u = kept_done target (sorted_in attributes sections) (keeps index mode) n _ (laid out used) k (y begun target w u) h

    module _ (h : k < n) (b : Bool) (e : b ≡ keeps index mode (sorted_in attributes sections k)) where
      pub copying_past : b ≡ false → (out' : List ℕ) (used' : ℕ) → out' ≡ out → used' ≡ used → Copying out' used' (k + 1)
      copying_past q out' used' g m begun target w u =
          kept_on target (sorted_in attributes sections) (keeps index mode) n _ (laid out used) (laid out' used') k false (y begun target w u) h (sym q ∙ e)
          (ap₂ laid g m ∙ sym (rows_none (laid out used)))

      pub copying_next : b ≡ true → (out' : List ℕ) (used' : ℕ) → used + 32 ≤ length out
          → out' ≡ overwrite out used (gather (words_row rows unit) (tabulate (λ (i : ℕ). i) (2 * k + 1) 2)) → used' ≡ used + 32 → Copying out' used' (k + 1)
      copying_next q out' used' r g m begun target w u =
          kept_on target (sorted_in attributes sections) (keeps index mode) n _ (laid out used) (laid out' used') k true (y begun target w u) h (sym q ∙ e)
          (ap (laid out') m
          ∙ part_copied rows (whole_bodies begun (all_sorted attributes sections k)) (sorted_bodies (sorted_in attributes sections k)) (gather sorted_bodies (tabulate (sorted_in attributes sections) (k + 1) (n - (k + 1))))
          target unit out out' used (2 * k + 1) 2
          (subst (InWords rows) (bodies_split begun attributes sections n k h) w)
          (bodies_many begun attributes sections k)
          refl
          u
          r
          g)
