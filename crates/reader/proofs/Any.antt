-- `any` and `any_pair` of what is left of a list from an index on: none left, one more; and `any` of two lists.
use Prim.Native.Nat.{ℕ, ◌+◌, ◌≤◌, ◌<◌}
use mathlib.Core.Path.{◌≡◌, refl, sym, ap}
use mathlib.Core.List.{List, [], ◌∷◌, ◌++◌}
use mathlib.Core.Bool.{Bool, true, false, ◌||◌, or_assoc}
use native.Mathlib.Numerals.{add-one}
use native.Mathlib.Omega.{arith}
use lib.ListN.{length, get_or, drop, length-drop, drop_of_length-le}
use lib.Seq.{drop-cons}
use Rattle.std.specs.List.{list_any}
use Rattle.laws.specs.Lists.{any, any_pair}

module _ {A : Type 0} (p : A → Bool) (l : List A) (i : ℕ) where
  pub any_out : length l ≤ i → any p (drop i l) ≡ false
  unfolding any
  any_out h = rw (drop_of_length-le l h)

  pub any_here : (d : A) → i < length l → any p (drop i l) ≡ (p (get_or l i d) || any p (drop (i + 1) l))
  unfolding any
  any_here d h = rw (add-one, drop-cons l i d h)

-- as the library asks
pub any_listed : {A : Type 0} (p : A → Bool) (l : List A) → list_any p l ≡ any p l
unfolding any
any_listed p [] = refl
any_listed p (x ∷ l) = ap (λ (t : Bool). p x || t) (any_listed p l)

pub any_append : {A : Type 0} (p : A → Bool) (xs ys : List A) → any p (xs ++ ys) ≡ (any p xs || any p ys)
unfolding any
any_append p [] ys = refl
any_append p (x ∷ xs) ys = rw (any_append p xs ys) (sym (or_assoc (p x) (any p xs) (any p ys)))

-- one element is no pair
pair_few : {A : Type 0} (p : A → A → Bool) (l : List A) → length l ≤ 1 → any_pair p l ≡ false
unfolding any any_pair
pair_few p [] h = refl
pair_few p (x ∷ []) h = refl
pair_few p (x ∷ y ∷ l) h = absurd (omega arith)

module _ {A : Type 0} (p : A → A → Bool) (l : List A) (i : ℕ) where
  pub pair_out : length l ≤ i + 1 → any_pair p (drop i l) ≡ false
  pair_out h = pair_few p (drop i l) (omega (arith, length-drop i l))

  pub pair_here : (d : A) → i < length l → any_pair p (drop i l) ≡ (any (p (get_or l i d)) (drop (i + 1) l) || any_pair p (drop (i + 1) l))
  unfolding any_pair
  pair_here d h = rw (add-one, drop-cons l i d h)

-- what a turn's test leaves of the answer v
pub or_hit : (r t v : Bool) → (r || t) ≡ v → r ≡ true → true ≡ v
or_hit r t v h e = rw e at h

pub or_miss : (r t v : Bool) → (r || t) ≡ v → r ≡ false → t ≡ v
or_miss r t v h e = rw e at h
