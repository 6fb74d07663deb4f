-- `values::common_at` meets its contract: at each turn the bytes that are counted and those that are left to count are all of them.
use mathlib.Core.Path.{◌≡◌}
use Prim.Native.Nat.{◌+◌}
use lib.ListN.{drop}
use Rattle.lexer.specs.Values.{common}
use Rattle.values.proofs.common_at.Given as goal

abbrev pub invariant-loop-k : goal.invariant-loop-k
invariant-loop-k l = l.k + common (drop (l.at + l.k) l.s) (drop l.k l.word) ≡ common (drop l.at l.s) l.word
