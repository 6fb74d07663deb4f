-- An array that is filled from the front, a store a turn: what holds of each element that was stored.
use Prim.Native.Nat.{ℕ, ◌+◌, ◌<◌}
use mathlib.Core.Path.{sym, subst}
use mathlib.Core.List.{List}
use native.Mathlib.Omega.{arith}
use borrow.Author.Count.{below_more}
use lib.ListN.{length, get_or, set}
use lib.Seq.{get_or-set_same, get_or-set_other}

pub filled_more : {A : Type 0} (P : ℕ → A → Type 0) (l : List A) (i : ℕ) (a d : A) → i < length l → ((k : ℕ) → k < i → P k (get_or l k d)) → P i a → (k : ℕ) → k < i + 1 → P k (get_or (set l i a) k d)
filled_more P l i a d h before here =
    below_more (λ (k : ℕ). P k (get_or (set l i a) k d)) i
    (λ k lt. subst (P k) (sym (get_or-set_other l i k a d (λ e. omega arith))) (before k lt))
    (subst (P i) (sym (get_or-set_same l i a d h)) here)
