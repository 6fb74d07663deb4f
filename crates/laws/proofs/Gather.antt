-- Laws of `gather` and `total`: one more element, and a length. Assumes nothing.
use mathlib.Core.Path.{◌≡◌, refl, sym, ap, ◌∙◌}
use mathlib.Core.List.{List, [], ◌∷◌, ◌++◌, append_assoc, append-nil}
use Prim.Native.Nat.{ℕ, ◌+◌, ◌*◌, ◌<◌}
use native.Mathlib.Nat.{add-zero, zero-add, add_assoc, mul-add, mul-zero}
use native.Mathlib.Numerals.{add-one}
use lib.ListN.{length, get_or, take, length-append}
use lib.Seq.{take-suc}
use Rattle.laws.specs.Gather.{gather, total}

module _ {ℓ κ} {A : Type ℓ} {B : Type κ} (f : A → List B) where
  pub gather_append : (xs ys : List A) → gather f (xs ++ ys) ≡ gather f xs ++ gather f ys
  unfolding gather
  gather_append [] ys = refl
  gather_append (x ∷ xs) ys = ap (λ (r : List B). f x ++ r) (gather_append xs ys) ∙ sym (append_assoc (f x) (gather f xs) (gather f ys))

  gather_one : (x : A) → gather f (x ∷ []) ≡ f x
  unfolding gather
  gather_one x = append-nil (f x)

  pub gather_none : gather f [] ≡ []
  unfolding gather
  gather_none = refl

  -- a turn of a loop that goes through xs
  pub gather_more : (xs : List A) (i : ℕ) (d : A) → i < length xs → gather f (take (i + 1) xs) ≡ gather f (take i xs) ++ f (get_or xs i d)
  gather_more xs i d h =
      ap (λ (k : ℕ). gather f (take k xs)) (add-one i)
      ∙ ap (gather f) (take-suc xs i d h)
      ∙ gather_append (take i xs) (get_or xs i d ∷ [])
      ∙ ap (λ (r : List B). gather f (take i xs) ++ r) (gather_one (get_or xs i d))

module _ {ℓ} {A : Type ℓ} (f : A → ℕ) where
  pub total_append : (xs ys : List A) → total f (xs ++ ys) ≡ total f xs + total f ys
  unfolding total
  total_append [] ys = sym (zero-add (total f ys))
  total_append (x ∷ xs) ys = ap (λ (k : ℕ). f x + k) (total_append xs ys) ∙ sym (add_assoc (f x) (total f xs) (total f ys))

  total_one : (x : A) → total f (x ∷ []) ≡ f x
  unfolding total
  total_one x = add-zero (f x)

  pub total_none : total f [] ≡ 0
  unfolding total
  total_none = refl

  pub total_more : (xs : List A) (i : ℕ) (d : A) → i < length xs → total f (take (i + 1) xs) ≡ total f (take i xs) + f (get_or xs i d)
  total_more xs i d h =
      ap (λ (k : ℕ). total f (take k xs)) (add-one i)
      ∙ ap (total f) (take-suc xs i d h)
      ∙ total_append (take i xs) (get_or xs i d ∷ [])
      ∙ ap (λ (k : ℕ). total f (take i xs) + k) (total_one (get_or xs i d))

-- the sum of what is gathered, element by element
module _ {A B : Type 0} where
  pub total_gathered : (g : B → ℕ) (f : A → List B) (h : A → ℕ) → ((x : A) → total g (f x) ≡ h x) → (xs : List A) → total g (gather f xs) ≡ total h xs
  unfolding gather total
  total_gathered g f h e [] = refl
  total_gathered g f h e (x ∷ xs) = total_append g (f x) (gather f xs) ∙ rw (e x, total_gathered g f h e xs)

-- pieces of one size: the length of what is gathered is that many times the count
module _ {ℓ κ} {A : Type ℓ} {B : Type κ} (f : A → List B) (g : A → ℕ) (k : ℕ) (each : (x : A) → length (f x) ≡ k * g x) where
  pub length_gather : (xs : List A) → length (gather f xs) ≡ k * total g xs
  unfolding gather total
  length_gather [] = sym (mul-zero k)
  length_gather (x ∷ xs) =
      length-append (f x) (gather f xs)
      ∙ ap (λ (n : ℕ). n + length (gather f xs)) (each x)
      ∙ ap (λ (n : ℕ). k * g x + n) (length_gather xs)
      ∙ sym (mul-add k (g x) (total g xs))
