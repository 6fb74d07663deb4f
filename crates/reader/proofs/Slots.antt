-- A binding in its four places.
--     binding_past, binding_made      what the code reads
use Prim.Native.Nat.{ℕ, ◌+◌, ◌*◌, ◌≤◌}
use mathlib.Core.Path.{◌≡◌}
use mathlib.Core.List.{List}
use native.Mathlib.Omega.{arith}
use lib.ListN.{length, get_or, get_or-eq_default}
use Rattle.reader.specs.Spans.{span}
use Rattle.reader.specs.Namespaces.{binding}
use Rattle.reader.specs.Stored.{binding_in}

module _ (l : List ℕ) (k : ℕ) where
  pub binding_past : length l ≤ k → binding (span 0 0) (span 0 0) ≡ binding_in l k
  unfolding binding_in
  binding_past h = rw (past (4 * k) (omega arith), past (4 * k + 1) (omega arith), past (4 * k + 2) (omega arith), past (4 * k + 3) (omega arith))
    where
      past : (i : ℕ) → length l ≤ i → get_or l i 0 ≡ 0
      past i q = get_or-eq_default l 0 {n = i} q

  pub binding_made : (a b c d : ℕ) → a ≡ get_or l (4 * k) 0 → b ≡ get_or l (4 * k + 1) 0 → c ≡ get_or l (4 * k + 2) 0 → d ≡ get_or l (4 * k + 3) 0
      → binding (span a b) (span c d) ≡ binding_in l k
  unfolding binding_in
  binding_made a b c d p q r t = rw (p, q, r, t)
