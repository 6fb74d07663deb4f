-- Bindings compared by their numbers, four of each.
use Rattle.std.proofs.Common.{◌≡◌, ℕ, zero, suc, ◌+◌, ◌*◌, ◌≤◌, List, [], ◌∷◌, Bool, true, false, ◌&&◌, eqb, length, get_or, take, refl, sym, ap, ap₂, ◌∙◌, arith}
use lib.Pointwise.{pointwise}
use Rattle.laws.specs.Lists.{tabulate}
use Rattle.reader.specs.Namespaces.{binding}
use Rattle.reader.specs.Spans.{span}
use Rattle.reader.specs.Stored.{binding_in}
use Rattle.reader.proofs.Tabulated.{tabulate_same}
use Rattle.equality.specs.Same.{same_each, same_binding}

-- behind the first binding the numbers are those of the rest
rest_in : (a b c d : ℕ) (r : List ℕ) (k : ℕ) → binding_in (a ∷ b ∷ c ∷ d ∷ r) (1 + k) ≡ binding_in r (0 + k)
unfolding binding_in
rest_in a b c d r k =
    let at : (i j : ℕ) → i ≡ suc (suc (suc (suc j))) → get_or (a ∷ b ∷ c ∷ d ∷ r) i 0 ≡ get_or r j 0 = λ i j e. ap (λ (n : ℕ). get_or (a ∷ b ∷ c ∷ d ∷ r) n 0) e in
    ap₂ binding (ap₂ span (at _ _ (omega arith)) (at _ _ (omega arith))) (ap₂ span (at _ _ (omega arith)) (at _ _ (omega arith)))

four : (a b c d : Bool) (x y : Bool) → x ≡ y → (a && (b && (c && (d && x)))) ≡ (((a && b) && (c && d)) && y)
four true true true true x y e = e
four true true true false x y e = refl
four true true false d x y e = refl
four true false c d x y e = refl
four false b c d x y e = refl

pub same_bound : (n : ℕ) (l m : List ℕ) → 4 * n ≤ length l → 4 * n ≤ length m
    → pointwise eqb (take (4 * n) l) (take (4 * n) m) ≡ same_each same_binding (tabulate (binding_in l) 0 n) (tabulate (binding_in m) 0 n)
unfolding same_each tabulate binding_in
same_bound zero l m h g = refl
same_bound (suc n) [] m h g = absurd (omega arith)
same_bound (suc n) (a ∷ []) m h g = absurd (omega arith)
same_bound (suc n) (a ∷ b ∷ []) m h g = absurd (omega arith)
same_bound (suc n) (a ∷ b ∷ c ∷ []) m h g = absurd (omega arith)
same_bound (suc n) (a ∷ b ∷ c ∷ d ∷ r) [] h g = absurd (omega arith)
same_bound (suc n) (a ∷ b ∷ c ∷ d ∷ r) (a' ∷ []) h g = absurd (omega arith)
same_bound (suc n) (a ∷ b ∷ c ∷ d ∷ r) (a' ∷ b' ∷ []) h g = absurd (omega arith)
same_bound (suc n) (a ∷ b ∷ c ∷ d ∷ r) (a' ∷ b' ∷ c' ∷ []) h g = absurd (omega arith)
same_bound (suc n) (a ∷ b ∷ c ∷ d ∷ r) (a' ∷ b' ∷ c' ∷ d' ∷ s) h g =
    let e : 4 * suc n ≡ suc (suc (suc (suc (4 * n)))) = omega arith in
    ap (λ (i : ℕ). pointwise eqb (take i (a ∷ b ∷ c ∷ d ∷ r)) (take i (a' ∷ b' ∷ c' ∷ d' ∷ s))) e
    ∙ four (eqb a a') (eqb b b') (eqb c c') (eqb d d') _ _
    (same_bound n r s (omega arith) (omega arith)
    ∙ sym (ap₂ (same_each same_binding) (tabulate_same (binding_in (a ∷ b ∷ c ∷ d ∷ r)) (binding_in r) 1 0 n (λ k _. rest_in a b c d r k)) (tabulate_same (binding_in (a' ∷ b' ∷ c' ∷ d' ∷ s)) (binding_in s) 1 0 n (λ k _. rest_in a' b' c' d' s k))))
