-- An array filled with f 0, f 1, and so on: from an index on, number by number; from its front on, some numbers at a time.
use Prim.Native.Nat.{ℕ, ◌+◌, ◌<◌}
use mathlib.Core.Path.{◌≡◌, sym, ap, ◌∙◌}
use mathlib.Core.List.{List, [], ◌∷◌, ◌++◌}
use native.Mathlib.Nat.{zero-add}
use native.Mathlib.Omega.{arith}
use lib.ListN.{length, set}
use Rattle.laws.specs.Lists.{tabulate}
use Rattle.laws.specs.Over.{overwrite}
use Rattle.laws.proofs.Lists.{length_tabulate}
use Rattle.laws.proofs.Over.{over_none, over_all, over_set, over_over}
use Rattle.reader.proofs.Tabulated.{tabulate_same, tabulate_append}

pub tabulate_more : (f : ℕ → ℕ) (i : ℕ) → tabulate f 0 (i + 1) ≡ tabulate f 0 i ++ (f i ∷ [])
unfolding tabulate
tabulate_more f i = tabulate_append f 0 i 1 ∙ ap (λ (k : ℕ). tabulate f 0 i ++ (f k ∷ [])) (zero-add i)

module _ (f : ℕ → ℕ) (xs : List ℕ) where
  pub fill_start : (from : ℕ) → xs ≡ overwrite xs from (tabulate f 0 0)
  unfolding tabulate
  fill_start from = sym (over_none xs from)

  pub fill_more : (from : ℕ) (ys : List ℕ) (i v : ℕ) → from + i < length xs → ys ≡ overwrite xs from (tabulate f 0 i) → v ≡ f i → set ys (from + i) v ≡ overwrite xs from (tabulate f 0 (i + 1))
  fill_more from ys i v h e d =
      let l : length (tabulate f 0 i) ≡ i = length_tabulate f 0 i in
      ap (λ (y : List ℕ). set y (from + i) v) e
      ∙ ap (set (overwrite xs from (tabulate f 0 i)) (from + i)) d
      ∙ ap (λ (k : ℕ). set (overwrite xs from (tabulate f 0 i)) (from + k) (f i)) (sym l)
      ∙ over_set xs from (tabulate f 0 i) (f i) (omega arith)
      ∙ ap (overwrite xs from) (sym (tabulate_more f i))

  pub fill_part : (from : ℕ) (ys : List ℕ) (i n : ℕ) → i ≡ n → ys ≡ overwrite xs from (tabulate f 0 i) → ys ≡ overwrite xs from (tabulate f 0 n)
  fill_part from ys i n k e = e ∙ ap (λ (m : ℕ). overwrite xs from (tabulate f 0 m)) k

  -- m numbers more, at once
  pub fill_some : (g : ℕ → ℕ) (ys zs : List ℕ) (i m n : ℕ) → i + m ≡ n → ((j : ℕ) → j < m → g j ≡ f (i + j))
      → ys ≡ overwrite xs 0 (tabulate f 0 i) → zs ≡ overwrite ys i (tabulate g 0 m) → zs ≡ overwrite xs 0 (tabulate f 0 n)
  fill_some g ys zs i m n k same e d =
      let l : 0 + length (tabulate f 0 i) ≡ i = zero-add (length (tabulate f 0 i)) ∙ length_tabulate f 0 i in
      let next : tabulate g 0 m ≡ tabulate f (0 + i) m = tabulate_same g f 0 (0 + i) m (λ j h. ap g (zero-add j) ∙ same j h ∙ ap (λ (a : ℕ). f (a + j)) (sym (zero-add i))) in
      d
      ∙ ap (λ (y : List ℕ). overwrite y i (tabulate g 0 m)) e
      ∙ ap (overwrite (overwrite xs 0 (tabulate f 0 i)) i) next
      ∙ ap (λ (a : ℕ). overwrite (overwrite xs 0 (tabulate f 0 i)) a (tabulate f (0 + i) m)) (sym l)
      ∙ over_over xs 0 (tabulate f 0 i) (tabulate f (0 + i) m) (omega arith)
      ∙ ap (overwrite xs 0) (sym (tabulate_append f 0 i m) ∙ ap (tabulate f 0) k)

  pub fill_end : (ys : List ℕ) (i n : ℕ) → length xs ≡ n → i ≡ n → ys ≡ overwrite xs 0 (tabulate f 0 i) → ys ≡ tabulate f 0 n
  fill_end ys i n l k e = e ∙ over_all xs (tabulate f 0 i) (omega (arith, length_tabulate f 0 i)) ∙ ap (tabulate f 0) k
