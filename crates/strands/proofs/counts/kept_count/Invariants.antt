-- `strands::counts::kept_count` meets its contract: those kept so far are counted.
use Prim.Native.Nat.{◌≤◌}
use mathlib.Core.Path.{◌≡◌}
use lib.ListN.{length}
use Rattle.laws.specs.Lists.{keep}
use Rattle.attributes.specs.Attributes.{sorted_held}
use Rattle.strands.specs.Writing.{keeps}
use Rattle.strands.proofs.counts.kept_count.Given as goal

abbrev pub invariant-loop-k : goal.invariant-loop-k
invariant-loop-k l = (l.k ≤ l.n) × (l.m ≤ l.k) × (l.m ≡ length (keep (keeps l.index l.mode) (sorted_held l.attributes l.k)))
