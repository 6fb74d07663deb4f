-- `levels::listed_in` meets its contract: no URI behind the n-th is listed.
use Prim.Native.Nat.{◌≤◌}
use lib.ListN.{length}
use Rattle.table.specs.Table.{uris_of}
use Rattle.coherence.proofs.levels.listed_in.Given as goal

abbrev pub invariant-loop-n : goal.invariant-loop-n
invariant-loop-n l = length (uris_of l.table l.header) ≤ l.n
