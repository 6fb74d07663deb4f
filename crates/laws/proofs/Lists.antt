-- Laws of `tabulate`, `any`, `all`, `keep`, `any_pair` and `same_list`.
use Prim.Native.Nat.{ℕ, zero, suc, ◌+◌, ◌-◌, ◌≤◌, ◌<◌}
use mathlib.Core.Path.{◌≡◌, refl, sym, ap, ◌∙◌}
use mathlib.Core.List.{List, [], ◌∷◌, ◌++◌, map}
use mathlib.Core.Bool.{Bool, true, false, cond, ◌||◌, or_assoc, or-false}
use native.Mathlib.Numerals.{add-one}
use native.Mathlib.Nat.{add-zero}
use native.Mathlib.Omega.{arith}
use lib.ListN.{length, get_or, get_or-eq_default}
use Rattle.laws.proofs.Flags.{differ, and_left, and_right, or_left, or_right}
use Rattle.laws.specs.Lists.{any, all, keep, any_pair, tabulate}

module _ {ℓ} {A : Type ℓ} (f : ℕ → A) where
  -- a turn of a loop that goes through f i, .., f (n - 1), and its end
  pub tabulate_here : (i n : ℕ) → i < n → tabulate f i (n - i) ≡ f i ∷ tabulate f (i + 1) (n - (i + 1))
  unfolding tabulate
  tabulate_here i n h =
      let e : n - i ≡ suc (n - (i + 1)) = omega arith in
      ap (tabulate f i) e ∙ ap (λ (k : ℕ). f i ∷ tabulate f k (n - (i + 1))) (sym (add-one i))

  pub tabulate_done : (i n : ℕ) → n ≤ i → tabulate f i (n - i) ≡ []
  unfolding tabulate
  tabulate_done i n h =
      let e : n - i ≡ 0 = omega arith in
      ap (tabulate f i) e

  pub length_tabulate : (k n : ℕ) → length (tabulate f k n) ≡ n
  unfolding tabulate
  length_tabulate k zero = refl
  length_tabulate k (suc n) = ap suc (length_tabulate (suc k) n)

  pub get_d_tabulate : (k n i : ℕ) (d : A) → i < n → get_or (tabulate f k n) i d ≡ f (k + i)
  unfolding tabulate
  get_d_tabulate k zero i d h = absurd (omega arith)
  get_d_tabulate k (suc n) zero d h = ap f (sym (add-zero k))
  get_d_tabulate k (suc n) (suc i) d h = get_d_tabulate (suc k) n i d (omega arith) ∙ ap f (omega arith)

  pub get_d_tabulate_out : (k n i : ℕ) (d : A) → n ≤ i → get_or (tabulate f k n) i d ≡ d
  get_d_tabulate_out k n i d h = get_or-eq_default (tabulate f k n) d (omega (arith, length_tabulate k n))

-- a loop that asks each of f i, .., f (n - 1): v is the answer
module _ {ℓ} {A : Type ℓ} (f : ℕ → A) (i n : ℕ) (v : Bool) where
  module _ (p : A → Bool) where
    module _ (inv : all p (tabulate f i (n - i)) ≡ v) where
      pub all_done : n ≤ i → true ≡ v
      unfolding all
      all_done h = sym (sym inv ∙ ap (all p) (tabulate_done f i n h))

      pub all_not : i < n → p (f i) ≡ false → false ≡ v
      unfolding all
      all_not h e = simp (← inv, tabulate_here f i n h, e)

      pub all_on : i < n → p (f i) ≡ true → all p (tabulate f (i + 1) (n - (i + 1))) ≡ v
      unfolding all
      all_on h e = simp (← inv, tabulate_here f i n h, e)

    -- asked to the end, a being the answer so far
    module _ (a : Bool) (inv : (a || any p (tabulate f i (n - i))) ≡ v) where
      pub asked_done : n ≤ i → a ≡ v
      unfolding any
      asked_done h = sym (or-false a) ∙ (rw (tabulate_done f i n h) at inv)

      pub asked_on : i < n → (a || p (f i) || any p (tabulate f (i + 1) (n - (i + 1)))) ≡ v
      unfolding any
      asked_on h = or_assoc a (p (f i)) (any p (tabulate f (i + 1) (n - (i + 1)))) ∙ (rw (tabulate_here f i n h) at inv)

  module _ (p : A → A → Bool) (inv : any_pair p (tabulate f i (n - i)) ≡ v) where
    pub pair_done : n ≤ i → false ≡ v
    unfolding any_pair
    pair_done h = sym (sym inv ∙ ap (any_pair p) (tabulate_done f i n h))

    pub pair_found : i < n → any (p (f i)) (tabulate f (i + 1) (n - (i + 1))) ≡ true → true ≡ v
    unfolding any_pair
    pair_found h e = simp (← inv, tabulate_here f i n h, e)

    pub pair_on : i < n → any (p (f i)) (tabulate f (i + 1) (n - (i + 1))) ≡ false → any_pair p (tabulate f (i + 1) (n - (i + 1))) ≡ v
    unfolding any_pair
    pair_on h e = simp (← inv, tabulate_here f i n h, e)

module _ {ℓ} {A : Type ℓ} where
  -- tests that say the same
  pub any_same : (p q : A → Bool) → ((x : A) → p x ≡ q x) → (l : List A) → any p l ≡ any q l
  unfolding any
  any_same p q h [] = refl
  any_same p q h (x ∷ l) = simp (h x, any_same p q h l)

  pub keep_same : (p q : A → Bool) → ((x : A) → p x ≡ q x) → (l : List A) → keep p l ≡ keep q l
  unfolding keep
  keep_same p q h [] = refl
  keep_same p q h (x ∷ l) = simp (h x, keep_same p q h l)

  -- what no element passes keeps nothing, and adds nothing to another test
  pub keep_none : (p : A → Bool) (l : List A) → any p l ≡ false → keep p l ≡ []
  unfolding any keep
  keep_none p [] e = refl
  keep_none p (x ∷ l) e = simp (or_left (p x) (any p l) e, keep_none p l (or_right (p x) (any p l) e))

  pub keep_other : (p q : A → Bool) (l : List A) → any p l ≡ false → keep (λ (x : A). p x || q x) l ≡ keep q l
  unfolding any keep
  keep_other p q [] e = refl
  keep_other p q (x ∷ l) e = simp (or_left (p x) (any p l) e, keep_other p q l (or_right (p x) (any p l) e))

  pub keep_append : (p : A → Bool) (a b : List A) → keep p (a ++ b) ≡ keep p a ++ keep p b
  unfolding keep
  keep_append p [] b = refl
  keep_append p (x ∷ a) b = by (p x) (keep_append p a b)
    where
      by : (t : Bool) → keep p (a ++ b) ≡ keep p a ++ keep p b → cond t (x ∷ keep p (a ++ b)) (keep p (a ++ b)) ≡ cond t (x ∷ keep p a) (keep p a) ++ keep p b
      by true ih = ap (λ (l : List A). x ∷ l) ih
      by false ih = ih

  pub any_append : (p : A → Bool) (a b : List A) → any p (a ++ b) ≡ (any p a || any p b)
  unfolding any
  any_append p [] b = refl
  any_append p (x ∷ a) b = ap (λ (t : Bool). p x || t) (any_append p a b) ∙ sym (or_assoc (p x) (any p a) (any p b))

  -- no element passes a test that is stronger than one that none passes
  pub any_stronger : (p q : A → Bool) → ((x : A) → p x ≡ true → q x ≡ true) → (l : List A) → any q l ≡ false → any p l ≡ false
  unfolding any
  any_stronger p q h [] e = refl
  any_stronger p q h (x ∷ l) e = by (p x) refl (any_stronger p q h l (or_right (q x) (any q l) e))
    where
      by : (t : Bool) → t ≡ p x → any p l ≡ false → (t || any p l) ≡ false
      by true f ih = absurd (differ (sym (h x (sym f)) ∙ or_left (q x) (any q l) e))
      by false f ih = ih

  pub all_append : (p : A → Bool) (k l : List A) → all p k ≡ true → all p l ≡ true → all p (k ++ l) ≡ true
  unfolding all
  all_append p [] l h e = e
  all_append p (x ∷ k) l h e = rw (and_left (p x) (all p k) h) (all_append p k l (and_right (p x) (all p k) h) e)

  pub all_kept : (p : A → Bool) (l : List A) → all p (keep p l) ≡ true
  unfolding all keep
  all_kept p [] = refl
  all_kept p (x ∷ l) = by (p x) refl (all_kept p l)
    where
      by : (t : Bool) → t ≡ p x → all p (keep p l) ≡ true → all p (cond t (x ∷ keep p l) (keep p l)) ≡ true
      by true e ih = simp (← e, ih)
      by false e ih = ih

  -- of those kept no two, if of all no two
  pub any_kept : (p q : A → Bool) (l : List A) → any q l ≡ false → any q (keep p l) ≡ false
  unfolding any keep
  any_kept p q [] e = refl
  any_kept p q (x ∷ l) e = by (p x) (any_kept p q l (or_right (q x) (any q l) e))
    where
      by : (t : Bool) → any q (keep p l) ≡ false → any q (cond t (x ∷ keep p l) (keep p l)) ≡ false
      by true ih = simp (or_left (q x) (any q l) e, ih)
      by false ih = ih

  pub pair_kept : (p : A → Bool) (q : A → A → Bool) (l : List A) → any_pair q l ≡ false → any_pair q (keep p l) ≡ false
  unfolding any_pair keep
  pair_kept p q [] e = refl
  pair_kept p q (x ∷ l) e = by (p x) (pair_kept p q l (or_right (any (q x) l) (any_pair q l) e))
    where
      by : (t : Bool) → any_pair q (keep p l) ≡ false → any_pair q (cond t (x ∷ keep p l) (keep p l)) ≡ false
      by true ih = simp (any_kept p (q x) l (or_left (any (q x) l) (any_pair q l) e), ih)
      by false ih = ih

module _ {ℓ κ} {A : Type ℓ} {B : Type κ} where
  pub keep_map : (f : A → B) (p : B → Bool) (l : List A) → keep p (map f l) ≡ map f (keep (λ (x : A). p (f x)) l)
  unfolding keep
  keep_map f p [] = refl
  keep_map f p (x ∷ l) = by (p (f x)) (keep_map f p l)
    where
      by : (t : Bool) → keep p (map f l) ≡ map f (keep (λ (y : A). p (f y)) l)
          → cond t (f x ∷ keep p (map f l)) (keep p (map f l)) ≡ map f (cond t (x ∷ keep (λ (y : A). p (f y)) l) (keep (λ (y : A). p (f y)) l))
      by true ih = ap (λ (k : List B). f x ∷ k) ih
      by false ih = ih
