-- Tests joined by &&, of which the code asks one after the other: r is what a callee says of the first test t, x the tests behind it, v their answer.
--     chain_out, chain_on            a callee's test
--     chain_unlike, chain_alike      of two numbers, as callees give them
use Prim.Native.Nat.{ℕ}
use mathlib.Core.Path.{◌≡◌, refl, sym, ap, ◌∙◌}
use mathlib.Core.Bool.{Bool, true, false, not, ◌&&◌}
use borrow.Author.Tests.{eq-eqb, ne_eqb}
use lib.Dec.{eqb}
use Rattle.laws.specs.Tests.{untold, untold', not_left}

module _ (r t x : Bool) (e : r ≡ t) where
  pub chain_out : not r ≡ true → false ≡ (t && x)
  chain_out f = sym (not_left t x (untold r t e f))

  pub chain_on : not r ≡ false → (v : Bool) → v ≡ x → v ≡ (t && x)
  chain_on f v g = g ∙ sym (ap (λ (b : Bool). b && x) (untold' r t e f))

module _ (m n a b : ℕ) (x : Bool) (em : m ≡ a) (en : n ≡ b) where
  pub chain_unlike : (m ≡ n → ⊥) → false ≡ (eqb a b && x)
  chain_unlike f = chain_out false (eqb a b) x (sym (ne_eqb a b (λ e. f (em ∙ e ∙ sym en)))) refl

  pub chain_alike : m ≡ n → (v : Bool) → v ≡ x → v ≡ (eqb a b && x)
  chain_alike f = chain_on true (eqb a b) x (sym (eq-eqb a b (sym em ∙ f ∙ en))) refl
