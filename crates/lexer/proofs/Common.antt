-- How many bytes a list and a word have in common: a turn of the loop that counts them, how many they can be, and more bytes.
use Prim.Native.Nat.{ℕ, zero, suc, ◌+◌, ◌≤◌, ◌<◌, zero-le, suc-le-suc}
use mathlib.Core.Path.{◌≡◌, refl, ap}
use mathlib.Core.List.{List, [], ◌∷◌, ◌++◌}
use mathlib.Core.Bool.{Bool, true, false, cond}
use native.Mathlib.Nat.{add-zero}
use native.Mathlib.Omega.{arith}
use borrow.Author.Tests.{eq-eqb, ne_eqb, eqb-true}
use lib.ListN.{length, drop, get_or}
use lib.Dec.{eqb}
use Rattle.laws.specs.Reading.{drop_here, drop_out}
use Rattle.laws.proofs.Holds.{holds_cond}
use Rattle.lexer.specs.Values.{common}

pub common_none : (l : List ℕ) → common l [] ≡ 0
unfolding common
common_none [] = refl
common_none (b ∷ l) = refl

pub common_start : (s word : List ℕ) (at : ℕ) → 0 + common (drop (at + 0) s) (drop 0 word) ≡ common (drop at s) word
common_start s word at = simp add-zero (omega arith)

-- what is left to count at the k-th byte of the word
module _ (p : ℕ) (s word : List ℕ) (at k : ℕ) (inv : k + common (drop (at + k) s) (drop k word) ≡ p) where
  pub common_done : length word ≤ k → k ≡ p
  common_done h = simp (← inv, drop_out word, common_none, add-zero)

  pub common_out : length s ≤ at + k → k ≡ p
  unfolding common
  common_out h = simp (← inv, drop_out s, add-zero)

  module _ (h : k < length word) (l : at + k < length s) where
    pub common_miss : (get_or s (at + k) 0 ≡ get_or word k 0 → ⊥) → k ≡ p
    unfolding common
    common_miss n = simp (← inv, drop_here word, drop_here s, ne_eqb _ _ n, add-zero)

    pub common_more : get_or s (at + k) 0 ≡ get_or word k 0 → k + 1 + common (drop (at + (k + 1)) s) (drop (k + 1) word) ≡ p
    unfolding common
    common_more e =
        let a : at + (k + 1) ≡ at + k + 1 = omega arith in
        rw a (simp (← inv, drop_here word, drop_here s, eq-eqb _ _ e) (omega arith))

-- no more than the list has
pub common_few : (l word : List ℕ) → common l word ≤ length l
unfolding common
common_few [] word = zero-le
common_few (b ∷ l) [] = zero-le
common_few (b ∷ l) (c ∷ word) = holds_cond (λ (k : ℕ). k ≤ suc (length l)) (eqb b c) (λ e. suc-le-suc (common_few l word)) (λ e. zero-le)

-- where the word stands whole, the rest of the list behind it
pub common_all : (l word : List ℕ) → common l word ≡ length word → l ≡ word ++ drop (length word) l
unfolding common
common_all l [] e = refl
common_all [] (c ∷ word) e = absurd (differ e)
  where
    differ : zero ≡ suc (length word) → ⊥
    differ q = omega arith
common_all (b ∷ l) (c ∷ word) e = one (eqb b c) refl e (common_all l word)
  where
    one : (t : Bool) → eqb b c ≡ t → cond t (suc (common l word)) 0 ≡ suc (length word) → (common l word ≡ length word → l ≡ word ++ drop (length word) l) → b ∷ l ≡ c ∷ (word ++ drop (length word) l)
    one true q h ih =
        let x : b ≡ c = eqb-true b c q in
        let y : l ≡ word ++ drop (length word) l = ih (omega arith) in
        cc
    one false q h ih = absurd (omega arith)

-- where the list goes on behind what it has in common with the word, more bytes change nothing
pub common_kept : (l word t : List ℕ) → common l word < length l → common (l ++ t) word ≡ common l word
unfolding common
common_kept [] word t h = absurd (omega arith)
common_kept (b ∷ l) [] t h = refl
common_kept (b ∷ l) (c ∷ word) t h = one (eqb b c) h (common_kept l word t)
  where
    one : (x : Bool) → cond x (suc (common l word)) 0 < suc (length l) → (common l word < length l → common (l ++ t) word ≡ common l word) → cond x (suc (common (l ++ t) word)) 0 ≡ cond x (suc (common l word)) 0
    one true k ih = ap suc (ih (omega arith))
    one false k ih = refl
