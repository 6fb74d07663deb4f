-- `tabulate` from an index on: an element more, and none left; its length and elements; and a bound.
use Prim.Native.Nat.{ℕ, zero, suc, ◌+◌, ◌-◌, ◌≤◌, ◌<◌, min}
use mathlib.Core.Path.{◌≡◌, refl, sym, ap, ◌∙◌}
use mathlib.Core.List.{List, [], ◌∷◌, ◌++◌}
use mathlib.Core.Logic.{⊎_elim}
use native.Mathlib.Omega.{arith}
use native.Mathlib.Nat.{add-zero, not-suc-le-zero}
use native.Mathlib.Numerals.{add-one}
use borrow.Author.Tests.{le-leb, lt-leb}
use lib.ListN.{length, get_or}
use Rattle.laws.specs.Lists.{tabulate}
use Rattle.laws.specs.Reading.{le_or_lt}
use Rattle.reader.specs.Stored.{at_most}

module _ {A : Type 0} (f : ℕ → A) (n i : ℕ) where
  pub tab_here : i < n → tabulate f i (n - i) ≡ f i ∷ tabulate f (i + 1) (n - (i + 1))
  unfolding tabulate
  tab_here h =
      let e : n - i ≡ suc (n - (i + 1)) = omega arith in
      ap (tabulate f i) e ∙ ap (λ (k : ℕ). f i ∷ tabulate f k (n - (i + 1))) (sym (add-one i))

  pub tab_out : n ≤ i → tabulate f i (n - i) ≡ []
  unfolding tabulate
  tab_out h = let e : n - i ≡ 0 = omega arith in ap (tabulate f i) e

pub at_most_le : (most n r : ℕ) → r ≡ at_most most n → r ≤ most
at_most_le most n r e = ⊎_elim (λ h. omega (arith, (rw (le-leb n most h) at e))) (λ h. omega (arith, (rw (lt-leb n most h) at e))) (le_or_lt n most)

pub min_at_most : (most n : ℕ) → min n most ≡ at_most most n
min_at_most most n = ⊎_elim (λ h. rw (le-leb n most h) (omega arith)) (λ h. rw (lt-leb n most h) (omega arith)) (le_or_lt n most)

pub tab_long : {A : Type 0} (f : ℕ → A) (i n : ℕ) → length (tabulate f i n) ≡ n
unfolding tabulate
tab_long f i zero = refl
tab_long f i (suc n) = ap suc (tab_long f (suc i) n)

pub tab_at : {A : Type 0} (f : ℕ → A) (i n k : ℕ) (d : A) → k < n → get_or (tabulate f i n) k d ≡ f (i + k)
unfolding tabulate
tab_at f i zero k d h = absurd (not-suc-le-zero h)
tab_at f i (suc n) zero d h = ap f (sym (add-zero i))
tab_at f i (suc n) (suc k) d h = let e : suc i + k ≡ i + suc k = omega arith in tab_at f (suc i) n k d (omega arith) ∙ ap f e

tab_end : {A : Type 0} (f : ℕ → A) (i n : ℕ) → tabulate f i (suc n) ≡ tabulate f i n ++ (f (i + n) ∷ [])
unfolding tabulate
tab_end f i zero = ap (λ (k : ℕ). f k ∷ []) (sym (add-zero i))
tab_end f i (suc n) =
    let e : suc i + n ≡ i + suc n = omega arith in
    ap (λ (l : List _). f i ∷ l) (tab_end f (suc i) n ∙ ap (λ (k : ℕ). tabulate f (suc i) n ++ (f k ∷ [])) e)

pub tab_last : {A : Type 0} (f : ℕ → A) (n : ℕ) → tabulate f 0 (suc n) ≡ tabulate f 0 n ++ (f n ∷ [])
tab_last f n = let e : 0 + n ≡ n = omega arith in tab_end f 0 n ∙ ap (λ (k : ℕ). tabulate f 0 n ++ (f k ∷ [])) e
