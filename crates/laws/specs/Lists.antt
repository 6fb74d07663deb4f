-- Lists: tests of their elements, and two lists of numbers compared. Definitions.
use Rattle.std.specs.Prelude.{ℕ, zero, suc, List, [], ◌∷◌, Bool, true, false, cond, ◌&&◌, ◌||◌, eqb}

-- byte for byte the same
unfoldable pub same_list : List ℕ → List ℕ → Bool
same_list [] [] = true
same_list [] (y ∷ t) = false
same_list (x ∷ s) [] = false
same_list (x ∷ s) (y ∷ t) = eqb x y && same_list s t

-- an element passes the test
unfoldable pub any {ℓ} : {A : Type ℓ} → (A → Bool) → List A → Bool
any p [] = false
any p (x ∷ l) = p x || any p l

-- each element passes it
unfoldable pub all {ℓ} : {A : Type ℓ} → (A → Bool) → List A → Bool
all p [] = true
all p (x ∷ l) = p x && all p l

-- those that pass it, in order
unfoldable pub keep {ℓ} : {A : Type ℓ} → (A → Bool) → List A → List A
keep p [] = []
keep p (x ∷ l) = cond (p x) (x ∷ keep p l) (keep p l)

-- an element and one behind it pass a test of two
unfoldable pub any_pair {ℓ} : {A : Type ℓ} → (A → A → Bool) → List A → Bool
any_pair p [] = false
any_pair p (x ∷ l) = any (p x) l || any_pair p l

-- f k, f (k + 1), .., n of them
unfoldable pub tabulate {ℓ} : {A : Type ℓ} → (ℕ → A) → ℕ → ℕ → List A
tabulate f k zero = []
tabulate f k (suc n) = f k ∷ tabulate f (suc k) n
