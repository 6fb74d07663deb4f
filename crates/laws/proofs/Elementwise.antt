-- More on what holds of each element of a list.
--     each_map, each_append, each_gather, each_any     from list to list
--     each_tabulated, tested_at, tabulated_all         a list of f i, f (i + 1), ..
--     any_none, all_each, pair_append                  tests of all, by what holds of each
--     any_same, any_pair_same, gather_same              functions that agree at each element
use Prim.Native.Nat.{ℕ, zero, suc, ◌+◌, ◌≤◌, ◌<◌}
use mathlib.Core.Path.{◌≡◌, refl, sym, ap, ap₂, ◌∙◌}
use mathlib.Core.List.{List, [], ◌∷◌, ◌++◌}
use mathlib.Core.Bool.{Bool, true, false, ◌||◌}
use mathlib.Core.Logic.{⊎_elim}
use native.Mathlib.Omega.{arith}
use Rattle.laws.specs.Lists.{any, all, any_pair, tabulate}
use Rattle.laws.specs.Gather.{gather}
use Rattle.laws.specs.Members.{All}
use Rattle.laws.specs.Reading.{le_or_lt}
use Rattle.laws.specs.Tests.{both, neither}
use Rattle.laws.proofs.Flags.{and_left, and_right, or_left, or_right}
use Rattle.laws.proofs.Lists.{any_append}

pub each_map : {A : Type 0} (P Q : A → Type 0) → ((x : A) → P x → Q x) → (l : List A) → All P l → All Q l
each_map P Q f [] h = tt
each_map P Q f (x ∷ l) h = (f x h.0, each_map P Q f l h.1)

pub each_append : {A : Type 0} (P : A → Type 0) (l m : List A) → All P l → All P m → All P (l ++ m)
each_append P [] m h k = k
each_append P (x ∷ l) m h k = (h.0, each_append P l m h.1 k)

pub each_gather : {A B : Type 0} (P : A → Type 0) (Q : B → Type 0) (f : A → List B) → ((x : A) → P x → All Q (f x)) → (l : List A) → All P l → All Q (gather f l)
unfolding gather
each_gather P Q f g [] h = tt
each_gather P Q f g (x ∷ l) h = each_append Q (f x) (gather f l) (g x h.0) (each_gather P Q f g l h.1)

-- of lists of which no element passes a test
pub each_any : {A : Type 0} (P : A → Type 0) (p : A → Bool) (l : List A) → All P l → any p l ≡ false → All (λ (x : A). P x × (p x ≡ false)) l
unfolding any
each_any P p [] h e = tt
each_any P p (x ∷ l) h e = ((h.0, first (p x) e), each_any P p l h.1 (second (p x) e))
  where
    first : (t : Bool) → (t || any p l) ≡ false → t ≡ false
    first true q = q
    first false q = refl

    second : (t : Bool) → (t || any p l) ≡ false → any p l ≡ false
    second true q = absurd (let z : ◌≡◌ {A = ℕ} 0 1 = cc in omega arith)
    second false q = q

-- a list of f i, f (i + 1), ..
pub each_tabulated : {A : Type 0} (P : A → Type 0) (f : ℕ → A) (i n : ℕ) → ((k : ℕ) → i ≤ k → k < i + n → P (f k)) → All P (tabulate f i n)
unfolding tabulate
each_tabulated P f i zero h = tt
each_tabulated P f i (suc n) h = (h i (omega arith) (omega arith), each_tabulated P f (suc i) n (λ k lo hi. h k (omega arith) (omega arith)))

pub tested_at : {A : Type 0} (p : A → Bool) (f : ℕ → A) (i n : ℕ) → all p (tabulate f i n) ≡ true → (k : ℕ) → i ≤ k → k < i + n → p (f k) ≡ true
unfolding all tabulate
tested_at p f i zero e k lo hi = absurd (omega arith)
tested_at p f i (suc n) e k lo hi =
    ⊎_elim (λ le. let here : i ≡ k = omega arith in ap (λ (j : ℕ). p (f j)) (sym here) ∙ and_left (p (f i)) (all p (tabulate f (suc i) n)) e)
    (λ lt. tested_at p f (suc i) n (and_right (p (f i)) (all p (tabulate f (suc i) n)) e) k (omega arith) (omega arith)) (le_or_lt k i)

pub tabulated_all : {A : Type 0} (p : A → Bool) (f : ℕ → A) (i n : ℕ) → ((k : ℕ) → i ≤ k → k < i + n → p (f k) ≡ true) → all p (tabulate f i n) ≡ true
unfolding all tabulate
tabulated_all p f i zero h = refl
tabulated_all p f i (suc n) h =
    both (p (f i)) (all p (tabulate f (suc i) n)) (h i (omega arith) (omega arith)) (tabulated_all p f (suc i) n (λ k lo hi. h k (omega arith) (omega arith)))

-- tests of all, by what holds of each
module _ {A : Type 0} where
  pub any_none : (p : A → Bool) (l : List A) → All (λ (x : A). p x ≡ false) l → any p l ≡ false
  unfolding any
  any_none p [] h = refl
  any_none p (x ∷ l) h = neither (p x) (any p l) h.0 (any_none p l h.1)

  pub all_each : (p : A → Bool) (l : List A) → All (λ (x : A). p x ≡ true) l → all p l ≡ true
  unfolding all
  all_each p [] h = refl
  all_each p (x ∷ l) h = both (p x) (all p l) h.0 (all_each p l h.1)

  pub pair_append : (q : A → A → Bool) (k l : List A) → any_pair q k ≡ false → any_pair q l ≡ false → All (λ (x : A). any (q x) l ≡ false) k → any_pair q (k ++ l) ≡ false
  unfolding any_pair
  pair_append q [] l e f h = f
  pair_append q (x ∷ k) l e f h =
      neither (any (q x) (k ++ l)) (any_pair q (k ++ l)) (any_append (q x) k l ∙ neither (any (q x) k) (any (q x) l) (or_left (any (q x) k) (any_pair q k) e) h.0)
      (pair_append q k l (or_right (any (q x) k) (any_pair q k) e) f h.1)

module _ {A : Type 0} (P : A → Type 0) where
  pub any_same : (p q : A → Bool) → ((x : A) → P x → p x ≡ q x) → (l : List A) → All P l → any p l ≡ any q l
  unfolding any
  any_same p q f [] h = refl
  any_same p q f (x ∷ l) h = ap₂ ◌||◌ (f x h.0) (any_same p q f l h.1)

  pub any_pair_same : (p q : A → A → Bool) → ((x y : A) → P x → P y → p x y ≡ q x y) → (l : List A) → All P l → any_pair p l ≡ any_pair q l
  unfolding any_pair
  any_pair_same p q f [] h = refl
  any_pair_same p q f (x ∷ l) h = ap₂ ◌||◌ (any_same (p x) (q x) (λ y k. f x y h.0 k) l h.1) (any_pair_same p q f l h.1)

  pub gather_same : {B : Type 0} (f g : A → List B) → ((x : A) → P x → f x ≡ g x) → (l : List A) → All P l → gather f l ≡ gather g l
  unfolding gather
  gather_same f g e [] h = refl
  gather_same f g e (x ∷ l) h = ap₂ ◌++◌ (e x h.0) (gather_same f g e l h.1)
