-- Lists compared element by element, by a loop: v is the answer, r what a callee says of two elements.
--     each_unlike                                    lists of different lengths
--     each_out, each_on                              a turn, where both have an element more
--     rows_start, rows_done, rows_out, rows_on       f i, .., f (n - 1) against g i, .., g (n - 1)
use Prim.Native.Nat.{ℕ, suc, ◌+◌, ◌-◌, ◌≤◌, ◌<◌}
use mathlib.Core.Path.{◌≡◌, refl, sym, ap, ap₂, ◌∙◌}
use mathlib.Core.List.{List, [], ◌∷◌}
use mathlib.Core.Bool.{Bool, true, false, not}
use native.Mathlib.Nat.{sub-zero}
use lib.ListN.{length}
use Rattle.laws.specs.Lists.{tabulate}
use Rattle.laws.specs.Tests.{not_right}
use Rattle.laws.proofs.Lists.{tabulate_here, tabulate_done}
use Rattle.equality.specs.Same.{same_each}
use Rattle.equality.proofs.Chain.{chain_out, chain_on}

module _ {A : Type 0} (p : A → A → Bool) where
  pub each_unlike : (l m : List A) → (length l ≡ length m → ⊥) → false ≡ same_each p l m
  unfolding same_each
  each_unlike [] [] h = absurd (h refl)
  each_unlike [] (y ∷ t) h = refl
  each_unlike (x ∷ s) [] h = refl
  each_unlike (x ∷ s) (y ∷ t) h = sym (not_right (p x y) (same_each p s t) (sym (each_unlike s t (λ e. h (ap suc e)))))

  module _ (l m : List A) (v : Bool) (inv : same_each p l m ≡ v) (x y : A) (s t : List A) (el : l ≡ x ∷ s) (em : m ≡ y ∷ t) (r : Bool) (e : r ≡ p x y) where
    pub each_out : not r ≡ true → false ≡ v
    unfolding same_each
    each_out f = chain_out r (p x y) (same_each p s t) e f ∙ sym (ap₂ (same_each p) el em) ∙ inv

    pub each_on : not r ≡ false → same_each p s t ≡ v
    unfolding same_each
    each_on f = chain_on r (p x y) (same_each p s t) e f (same_each p s t) refl ∙ sym (ap₂ (same_each p) el em) ∙ inv

  module _ (f g : ℕ → A) (n : ℕ) where
    pub rows_start : same_each p (tabulate f 0 (n - 0)) (tabulate g 0 (n - 0)) ≡ same_each p (tabulate f 0 n) (tabulate g 0 n)
    rows_start = simp sub-zero

    module _ (i : ℕ) (v : Bool) (inv : same_each p (tabulate f i (n - i)) (tabulate g i (n - i)) ≡ v) where
      pub rows_done : n ≤ i → true ≡ v
      unfolding same_each
      rows_done h = sym (ap₂ (same_each p) (tabulate_done f i n h) (tabulate_done g i n h)) ∙ inv

      module _ (h : i < n) (x y : A) (ex : x ≡ f i) (ey : y ≡ g i) (r : Bool) (e : r ≡ p x y) where
        pub rows_out : not r ≡ true → false ≡ v
        rows_out = each_out _ _ v inv (f i) (g i) _ _ (tabulate_here f i n h) (tabulate_here g i n h) r (e ∙ ap₂ p ex ey)

        pub rows_on : not r ≡ false → same_each p (tabulate f (i + 1) (n - (i + 1))) (tabulate g (i + 1) (n - (i + 1))) ≡ v
        rows_on = each_on _ _ v inv (f i) (g i) _ _ (tabulate_here f i n h) (tabulate_here g i n h) r (e ∙ ap₂ p ex ey)
