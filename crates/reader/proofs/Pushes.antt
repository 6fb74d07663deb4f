-- What `push_bindings` leaves in the array is `pushed_bindings`, at each of its ends.
use mathlib.Core.Path.{◌≡◌, sym, ap, ◌∙◌}
use mathlib.Core.List.{List, ◌++◌, append_assoc}
use Prim.Native.Nat.{ℕ, ◌+◌, ◌*◌, ◌≤◌, ◌<◌}
use borrow.Author.Tests.{le-leb, lt-leb}
use lib.ListN.{length, get_or, set, take, drop}
use lib.Seq.{drop-drop}
use Rattle.laws.specs.Over.{overwrite}
use Rattle.laws.proofs.Over.{over_copy}
use Rattle.reader.specs.Pushed.{pushed_bindings}

module _ (bindings : List ℕ) (bound : ℕ) (own : List ℕ) (owned : ℕ) where
  pub many : 16 < owned → bindings ≡ pushed_bindings bindings bound own owned
  unfolding pushed_bindings
  many h = rw (lt-leb owned 16 h)

  pub full : owned ≤ 16 → 64 < bound + owned → bindings ≡ pushed_bindings bindings bound own owned
  unfolding pushed_bindings
  full l h = rw (le-leb owned 16 l, lt-leb (bound + owned) 64 h)

  pub laid : owned ≤ 16 → bound + owned ≤ 64 → overwrite bindings (4 * bound) (take (4 * owned) own) ≡ pushed_bindings bindings bound own owned
  unfolding pushed_bindings
  laid l h = rw (le-leb owned 16 l, le-leb (bound + owned) 64 h)

-- a turn of a loop that copies: j numbers of s were laid over xs
pub copied : (xs l s : List ℕ) (i j : ℕ) → l ≡ overwrite xs i (take j s) → j < length s → i + j < length xs → set l (i + j) (get_or s j 0) ≡ overwrite xs i (take (j + 1) s)
copied xs l s i j e hs hx = ap (λ (x : List ℕ). set x (i + j) (get_or s j 0)) e ∙ over_copy xs i s j 0 hs hx

-- what is left of a list where its part from a on, of k, was replaced
pub put_over : (xs : List ℕ) (a k : ℕ) (ys : List ℕ) → length ys ≡ k → take a xs ++ (ys ++ drop k (drop a xs)) ≡ overwrite xs a ys
unfolding overwrite
put_over xs a k ys e = ap (λ (r : List ℕ). take a xs ++ (ys ++ r)) (drop-drop k a xs ∙ ap (λ (n : ℕ). drop (a + n) xs) (sym e)) ∙ sym (append_assoc (take a xs) ys (drop (a + length ys) xs))
