-- Lists: what is kept of one more, by two tests, by tests that agree on it; what each gives by its place; a test joined with a flag.
use Prim.Native.Nat.{ℕ, suc, ◌+◌, ◌≤◌, ◌<◌}
use mathlib.Core.Path.{◌≡◌, refl, sym, ap, ap₂, ◌∙◌}
use mathlib.Core.List.{List, [], ◌∷◌, ◌++◌, append-nil}
use mathlib.Core.Bool.{Bool, true, false, cond, ◌&&◌, ◌||◌}
use mathlib.Core.Logic.{◌⊎◌, inl, inr, ⊎_elim}
use native.Mathlib.Nat.{add-zero}
use native.Mathlib.Omega.{arith}
use lib.ListN.{length, get_or}
use Rattle.std.specs.List.{sum_by, filter}
use Rattle.std.proofs.lemmas.List.Sums.{length-filter, count_by-le-length}
use Rattle.std.proofs.lemmas.List.Recursion.{is_sum_by}
use Rattle.laws.specs.Lists.{any, keep, tabulate}
use Rattle.laws.specs.Gather.{gather, total}
use Rattle.laws.specs.Members.{In, All}
use Rattle.laws.proofs.Flags.{differ}
use Rattle.laws.proofs.Lists.{keep_append}

pub or_rest : (a b : Bool) → a ≡ false → (a || b) ≡ true → b ≡ true
or_rest true b e h = absurd (differ e)
or_rest false b e h = h

module _ {A : Type 0} where
  pub in_more : (x y : A) (l : List A) → In x (l ++ (y ∷ [])) → In x l ⊎ (x ≡ y)
  in_more x y [] (inl e) = inr e
  in_more x y [] (inr m) = absurd m
  in_more x y (z ∷ l) (inl e) = inl (inl e)
  in_more x y (z ∷ l) (inr m) = ⊎_elim (λ i. inl (inr i)) (λ e. inr e) (in_more x y l m)

  module _ (p : A → Bool) where
    pub keep_miss : (l : List A) (x : A) → p x ≡ false → keep p (l ++ (x ∷ [])) ≡ keep p l
    unfolding keep
    keep_miss l x e = keep_append p l (x ∷ []) ∙ (simp (e, append-nil))

    pub keep_hit : (l : List A) (x : A) → p x ≡ true → keep p (l ++ (x ∷ [])) ≡ keep p l ++ (x ∷ [])
    unfolding keep
    keep_hit l x e = keep_append p l (x ∷ []) ∙ (simp e)

    pub none_passes : (l : List A) → ((x : A) → In x l → p x ≡ true → ⊥) → any p l ≡ false
    unfolding any
    none_passes [] n = refl
    none_passes (x ∷ l) n = by (p x) refl (none_passes l (λ y m. n y (inr m)))
      where
        by : (b : Bool) → b ≡ p x → any p l ≡ false → (b || any p l) ≡ false
        by true e ih = absurd (n x (inl refl) (sym e))
        by false e ih = ih

pub keep_both : {A : Type 0} (p q : A → Bool) (l : List A) → keep (λ (x : A). p x && q x) l ≡ keep q (keep p l)
unfolding keep
keep_both p q [] = refl
keep_both {A} p q (x ∷ l) = by (p x) (keep_both p q l)
  where
    by : (z : Bool) → keep (λ (y : A). p y && q y) l ≡ keep q (keep p l)
        → cond (z && q x) (x ∷ keep (λ (y : A). p y && q y) l) (keep (λ (y : A). p y && q y) l) ≡ keep q (cond z (x ∷ keep p l) (keep p l))
    by true ih = ap (λ (k : List A). cond (q x) (x ∷ k) k) ih
    by false ih = ih

-- what each of a list gives, by their places from k on
pub gather_places : {A B : Type 0} (f : ℕ → List B) (g : A → List B) (d : A) (l : List A) (k : ℕ) → ((i : ℕ) → i < length l → f (k + i) ≡ g (get_or l i d))
    → gather f (tabulate (λ (j : ℕ). j) k (length l)) ≡ gather g l
unfolding gather tabulate
gather_places f g d [] k h = refl
gather_places f g d (x ∷ l) k h =
    ap₂ ◌++◌ (ap f (sym (add-zero k)) ∙ h 0 (omega arith))
    (gather_places f g d l (suc k) (λ i m. let e : suc k + i ≡ k + suc i = omega arith in ap f e ∙ h (suc i) (omega arith)))

pub keep_each : {A : Type 0} (P : A → Type 0) (p q : A → Bool) → ((x : A) → P x → p x ≡ q x) → (l : List A) → All P l → keep p l ≡ keep q l
unfolding keep
keep_each P p q f [] h = refl
keep_each P p q f (x ∷ l) h = simp (f x h.0, keep_each P p q f l h.1)

absorb : (a x : Bool) → (x || (a && x)) ≡ x
absorb a true = refl
absorb true false = refl
absorb false false = refl

pub any_and : {A : Type 0} (p : A → Bool) (z : Bool) (l : List A) → any (λ (x : A). p x && z) l ≡ (any p l && z)
unfolding any
any_and p z [] = refl
any_and {A} p z (x ∷ l) = by (p x) (any_and p z l)
  where
    by : (b : Bool) → any (λ (y : A). p y && z) l ≡ (any p l && z) → ((b && z) || any (λ (y : A). p y && z) l) ≡ ((b || any p l) && z)
    by true ih = ap (λ (y : Bool). z || y) ih ∙ absorb (any p l) z
    by false ih = ih

-- the library's words for them
pub total_sum : {A : Type 0} (f : A → ℕ) (xs : List A) → total f xs ≡ sum_by f xs
unfolding total
total_sum f xs = is_sum_by (total f) f refl (λ x rest. refl) xs

pub keep_filter : {A : Type 0} (p : A → Bool) (xs : List A) → keep p xs ≡ filter p xs
unfolding keep
keep_filter p [] = refl
keep_filter {A = A} p (x ∷ xs) = ap (λ (l : List A). cond (p x) (x ∷ l) l) (keep_filter p xs)

pub length_keep : {A : Type 0} (p : A → Bool) (xs : List A) → length (keep p xs) ≤ length xs
length_keep {A = A} p xs = omega (arith, ap (length {A = A}) (keep_filter p xs), length-filter p xs, count_by-le-length p xs)
