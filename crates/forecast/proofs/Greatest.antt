-- The greater of two numbers, and the greatest of some.
use Prim.Native.Nat.{ℕ, zero, suc, max, ◌≤◌, ◌<◌}
use mathlib.Core.Path.{◌≡◌, subst}
use mathlib.Core.Logic.{⊎_elim}
use native.Mathlib.Omega.{arith}
use borrow.Author.Tests.{lt-ltb, le-ltb}
use Rattle.laws.specs.Reading.{le_or_lt}
use Rattle.forecast.specs.Forecasts.{greater_of, greatest}

pub greater_second : (a b : ℕ) → a < b → b ≡ greater_of a b
greater_second a b h = rw (lt-ltb a b h)

pub greater_first : (a b : ℕ) → b ≤ a → a ≡ greater_of a b
greater_first a b h = rw (le-ltb a b h)

-- as the library's `max` gives it
pub greater_max : (a b : ℕ) → max a b ≡ greater_of a b
greater_max a b = ⊎_elim (λ le. omega (arith, greater_first a b le)) (λ lt. omega (arith, greater_second a b lt)) (le_or_lt b a)

pub greater_most : (a b : ℕ) → (a ≤ greater_of a b) × (b ≤ greater_of a b)
greater_most a b =
    ⊎_elim (λ le. (omega (arith, greater_first a b le), omega (arith, greater_first a b le))) (λ lt. (omega (arith, greater_second a b lt), omega (arith, greater_second a b lt))) (le_or_lt b a)

pub greater_least : (a b n : ℕ) → a ≤ n → b ≤ n → greater_of a b ≤ n
greater_least a b n h k = ⊎_elim (λ le. omega (arith, greater_first a b le)) (λ lt. omega (arith, greater_second a b lt)) (le_or_lt b a)

pub greatest_few : (f : ℕ → ℕ) (n most : ℕ) → ((k : ℕ) → k < n → f k ≤ most) → greatest f n ≤ most
unfolding greatest
greatest_few f zero most h = omega arith
greatest_few f (suc n) most h = greater_least (greatest f n) (f n) most (greatest_few f n most (λ k l. h k (omega arith))) (h n (omega arith))

pub greatest_most : (f : ℕ → ℕ) (n k : ℕ) → k < n → f k ≤ greatest f n
unfolding greatest
greatest_most f zero k l = absurd (omega arith)
greatest_most f (suc n) k l =
    ⊎_elim (λ ge. subst (λ (i : ℕ). f i ≤ greater_of (greatest f n) (f n)) (omega arith) (greater_most (greatest f n) (f n)).1) (λ lt. omega (arith, greatest_most f n k lt, (greater_most (greatest f n) (f n)).0)) (le_or_lt n k)

-- the same numbers, each at least once
pub same_greatest : (f g : ℕ → ℕ) (n m : ℕ) → ((j : ℕ) → j < n → (k : ℕ) × (k < m) × (f j ≡ g k)) → ((k : ℕ) → k < m → (j : ℕ) × (j < n) × (f j ≡ g k)) → greatest f n ≡ greatest g m
same_greatest f g n m to from =
    let up : greatest f n ≤ greatest g m = greatest_few f n (greatest g m) (λ j l. let w = to j l in omega (arith, w.2, greatest_most g m w.0 w.1)) in
    let down : greatest g m ≤ greatest f n = greatest_few g m (greatest f n) (λ k l. let w = from k l in omega (arith, w.2, greatest_most f n w.0 w.1)) in
    omega arith
