-- Laws of `In` and `All`: by `keep`, `all`, `any`, `map` and an index.
use Prim.Native.Nat.{ℕ, zero, suc, ◌<◌}
use mathlib.Core.Path.{◌≡◌, refl, sym, ap, ◌∙◌, subst}
use mathlib.Core.List.{List, [], ◌∷◌, map}
use mathlib.Core.Bool.{Bool, true, false, cond}
use mathlib.Core.Logic.{◌⊎◌, inl, inr}
use native.Mathlib.Omega.{arith}
use lib.ListN.{length, get_or}
use Rattle.laws.specs.Lists.{any, all, keep}
use Rattle.laws.specs.Members.{In, All}
use Rattle.laws.proofs.Flags.{differ, and_left, and_right, or_left, or_right}

module _ {A : Type 0} where
  pub in_at : (l : List A) (i : ℕ) (d : A) → i < length l → In (get_or l i d) l
  in_at [] i d h = absurd (omega arith)
  in_at (x ∷ l) zero d h = inl refl
  in_at (x ∷ l) (suc i) d h = inr (in_at l i d (omega arith))

  -- what is kept is in the list and passes the test, and back
  pub in_kept : (p : A → Bool) (x : A) (l : List A) → In x l → p x ≡ true → In x (keep p l)
  unfolding keep
  in_kept p x [] m e = m
  in_kept p x (y ∷ l) m e = by (p y) refl m (λ n. in_kept p x l n e)
    where
      by : (b : Bool) → b ≡ p y → (x ≡ y) ⊎ In x l → (In x l → In x (keep p l)) → In x (cond b (y ∷ keep p l) (keep p l))
      by true q (inl d) ih = inl d
      by true q (inr n) ih = inr (ih n)
      by false q (inl d) ih = absurd (differ (sym e ∙ ap p d ∙ sym q))
      by false q (inr n) ih = ih n

  pub kept_in : (p : A → Bool) (x : A) (l : List A) → In x (keep p l) → In x l × (p x ≡ true)
  unfolding keep
  kept_in p x [] m = absurd m
  kept_in p x (y ∷ l) m = by (p y) refl m (λ n. let r : In x l × (p x ≡ true) = kept_in p x l n in (inr r.0, r.1))
    where
      by : (b : Bool) → b ≡ p y → In x (cond b (y ∷ keep p l) (keep p l)) → (In x (keep p l) → In x (y ∷ l) × (p x ≡ true)) → In x (y ∷ l) × (p x ≡ true)
      by true q (inl d) ih = (inl d, ap p d ∙ sym q)
      by true q (inr n) ih = ih n
      by false q n ih = ih n

  pub all_in : (p : A → Bool) (x : A) (l : List A) → all p l ≡ true → In x l → p x ≡ true
  unfolding all
  all_in p x [] e m = absurd m
  all_in p x (y ∷ l) e (inl d) = ap p d ∙ and_left (p y) (all p l) e
  all_in p x (y ∷ l) e (inr m) = all_in p x l (and_right (p y) (all p l) e) m

  pub none_in : (p : A → Bool) (x : A) (l : List A) → any p l ≡ false → In x l → p x ≡ false
  unfolding any
  none_in p x [] e m = absurd m
  none_in p x (y ∷ l) e (inl d) = ap p d ∙ or_left (p y) (any p l) e
  none_in p x (y ∷ l) e (inr m) = none_in p x l (or_right (p y) (any p l) e) m

  -- what holds of each that is in the list
  pub all_by : (P : A → Type 0) (l : List A) → ((x : A) → In x l → P x) → All P l
  all_by P [] h = tt
  all_by P (x ∷ l) h = (h x (inl refl), all_by P l (λ y m. h y (inr m)))

  pub all_at : (P : A → Type 0) (l : List A) → All P l → (x : A) → In x l → P x
  all_at P [] h x m = absurd m
  all_at P (y ∷ l) h x (inl d) = subst P (sym d) h.0
  all_at P (y ∷ l) h x (inr m) = all_at P l h.1 x m

module _ {A B : Type 0} where
  pub map_in : (f : A → B) (y : B) (l : List A) → In y (map f l) → (x : A) × In x l × (y ≡ f x)
  map_in f y [] m = absurd m
  map_in f y (x ∷ l) (inl d) = (x, inl refl, d)
  map_in f y (x ∷ l) (inr m) = let r : (z : A) × In z l × (y ≡ f z) = map_in f y l m in (r.0, inr r.1, r.2)
