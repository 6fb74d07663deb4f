-- What a chain of iterators says of all items, of a list and of the numbers below another.
use mathlib.Core.Path.{◌≡◌, refl, ap}
use mathlib.Core.List.{List, [], ◌∷◌, map}
use mathlib.Core.Bool.{Bool, ◌&&◌}
use Prim.Native.Nat.{ℕ, zero, suc}
use native.Mathlib.Numerals.{add-one}
use Rattle.std.specs.List.{list_all, range_with_len}
use Rattle.laws.specs.Lists.{all, tabulate}

pub all_listed : {A B : Type 0} (p : B → Bool) (f : A → B) (l : List A) → list_all (λ (x : A). p (f x)) l ≡ all p (map f l)
unfolding all
all_listed p f [] = refl
all_listed p f (x ∷ l) = ap (λ (b : Bool). p (f x) && b) (all_listed p f l)

pub all_ranged : {A : Type 0} (p : A → Bool) (f : ℕ → A) (k n : ℕ) → list_all (λ (i : ℕ). p (f i)) (range_with_len k n) ≡ all p (tabulate f k n)
unfolding all tabulate
all_ranged p f k zero = refl
all_ranged p f k (suc n) = rw (add-one k) (ap (λ (b : Bool). p (f k) && b) (all_ranged p f (suc k) n))
