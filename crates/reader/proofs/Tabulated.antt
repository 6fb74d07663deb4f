-- Laws of `tabulate`: the same values at other indices, and two parts in a row.
use mathlib.Core.Path.{◌≡◌, refl, sym, ap, ◌∙◌}
use mathlib.Core.List.{List, ◌∷◌, ◌++◌}
use Prim.Native.Nat.{ℕ, zero, suc, ◌+◌, ◌<◌}
use native.Mathlib.Omega.{arith}
use native.Mathlib.Nat.{add-zero, zero-add, suc-add}
use Rattle.laws.specs.Lists.{tabulate}

module _ {ℓ} {A : Type ℓ} where
  pub tabulate_same : (f g : ℕ → A) (j k n : ℕ) → ((i : ℕ) → i < n → f (j + i) ≡ g (k + i)) → tabulate f j n ≡ tabulate g k n
  unfolding tabulate
  tabulate_same f g j k zero h = refl
  tabulate_same f g j k (suc n) h =
      let rest : tabulate f (suc j) n ≡ tabulate g (suc k) n = tabulate_same f g (suc j) (suc k) n next in
      ap (λ (x : A). x ∷ tabulate f (suc j) n) (ap f (sym (add-zero j)) ∙ h 0 (omega arith) ∙ ap g (add-zero k))
      ∙ ap (λ (l : List A). g k ∷ l) rest
    where
      next : (i : ℕ) → i < n → f (suc j + i) ≡ g (suc k + i)
      next i l =
          let ej : suc j + i ≡ j + suc i = omega arith in
          let ek : k + suc i ≡ suc k + i = omega arith in
          ap f ej ∙ h (suc i) (omega arith) ∙ ap g ek

  pub tabulate_append : (f : ℕ → A) (k m n : ℕ) → tabulate f k (m + n) ≡ tabulate f k m ++ tabulate f (k + m) n
  unfolding tabulate
  tabulate_append f k zero n = rw (zero-add n, add-zero k)
  tabulate_append f k (suc m) n =
      let e : suc k + m ≡ k + suc m = omega arith in
      ap (tabulate f k) (suc-add m n)
      ∙ ap (λ (l : List A). f k ∷ l) (tabulate_append f (suc k) m n)
      ∙ ap (λ (i : ℕ). f k ∷ tabulate f (suc k) m ++ tabulate f i n) e
