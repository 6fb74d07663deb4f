-- `strands::counts::members_of` meets its contract: the attributes of the section so far are counted.
use Prim.Native.Nat.{◌≤◌}
use mathlib.Core.Path.{◌≡◌}
use lib.ListN.{length}
use Rattle.attributes.specs.Attributes.{sorted_held}
use Rattle.strands.specs.Writing.{members}
use Rattle.strands.proofs.counts.members_of.Given as goal

abbrev pub invariant-loop-k : goal.invariant-loop-k
invariant-loop-k l = (l.k ≤ l.n) × (l.m ≤ l.k) × (l.m ≡ length (members (sorted_held l.attributes l.k) l.j))
