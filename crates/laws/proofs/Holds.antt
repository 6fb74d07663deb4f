-- What holds of each way that an answer may come about holds of the answer.
--     holds_cond, holds_peek     by a test, by the byte at an index
--     Turned, run_held           by a machine whose state keeps an invariant
--     each-*                   of each element of a list
use Prim.Native.Nat.{ℕ, zero, suc, ◌+◌, ◌<◌}
use mathlib.Core.Path.{◌≡◌, refl, sym, ap, subst, ◌∙◌}
use mathlib.Core.List.{List, [], ◌∷◌, ◌++◌}
use mathlib.Core.Bool.{Bool, true, false, cond}
use native.Mathlib.Omega.{arith}
use native.Mathlib.Nat.{not-suc-le-zero, le_of_suc-le-suc}
use borrow.Author.Tests.{ltb-true}
use lib.ListN.{length, drop, get_or, length-drop}
use lib.Dec.{ltb}
use Rattle.laws.specs.Reading.{RunNext, go, stop, follow, run, drop_here}
use Rattle.laws.specs.Members.{All}

pub holds_cond : {A : Type 0} (P : A → Type 0) (t : Bool) {a b : A} → (t ≡ true → P a) → (t ≡ false → P b) → P (cond t a b)
holds_cond P true p q = p refl
holds_cond P false p q = q refl

-- of `peek cut s at f`: x is what f says of the byte
pub holds_peek : {A : Type 0} (P : A → Type 0) (s : List ℕ) (at : ℕ) {x cut : A} → P cut → (at < length s → P x) → P (cond (ltb at (length s)) x cut)
holds_peek P s at e h = holds_cond P (ltb at (length s)) (λ q. h (ltb-true at (length s) q)) (λ q. e)

-- a step's answer: what its state keeps where it goes on, and what it must meet where it stops
abbrev pub Turned : {St Out : Type 0} → (St → Type 0) → (Out → Type 0) → RunNext St Out → Type 0
Turned I P (go q) = I q
Turned I P (stop o) = P o

-- I q i: a machine in the state q at the index i of s. Each step is told its byte
module _ {St Out : Type 0} (cut : Out) (step : St → ℕ → ℕ → RunNext St Out) (s : List ℕ) (I : St → ℕ → Type 0) (P : Out → Type 0) (e : P cut) (turn : (q : St) (i : ℕ) → i < length s → I q i → Turned (λ (q' : St). I q' (i + 1)) P (step q (get_or s i 0) i)) where
  held : (l : List ℕ) (q : St) (i : ℕ) → drop i s ≡ l → I q i → P (run cut step q l i)
  unfolding run
  held [] q i d h = e
  held (b ∷ l) q i d h =
      let lt : i < length s = omega (arith, length-drop i s, ap length d) in
      let here : get_or s i 0 ∷ drop (i + 1) s ≡ b ∷ l = sym (drop_here s i lt) ∙ d in
      let byte : get_or s i 0 ≡ b = cc in
      let rest : drop (i + 1) s ≡ l = cc in
      next (step q b i) (λ (q' : St) (k : I q' (i + 1)). held l q' (i + 1) rest k) (subst (λ (x : ℕ). Turned (λ (q' : St). I q' (i + 1)) P (step q x i)) byte (turn q i lt h))
    where
      next : (n : RunNext St Out) → ((q' : St) → I q' (i + 1) → P (run cut step q' l (i + 1))) → Turned (λ (q' : St). I q' (i + 1)) P n → P (follow n (λ (q' : St). run cut step q' l (i + 1)))
      next (go q') ih k = ih q' k
      next (stop o) ih k = k

  pub run_held : (q : St) (i : ℕ) → I q i → P (run cut step q (drop i s) i)
  run_held q i h = held (drop i s) q i refl h

-- each element
module _ {A : Type 0} (P : A → Type 0) where
  pub each_more : (l : List A) (x : A) → All P l → P x → All P (l ++ (x ∷ []))
  each_more [] x h p = (p, tt)
  each_more (y ∷ l) x h p = (h.0, each_more l x h.1 p)

  pub each_at : (l : List A) (k : ℕ) (d : A) → All P l → k < length l → P (get_or l k d)
  each_at [] k d h i = absurd (not-suc-le-zero i)
  each_at (x ∷ l) zero d h i = h.0
  each_at (x ∷ l) (suc k) d h i = each_at l k d h.1 (le_of_suc-le-suc i)
