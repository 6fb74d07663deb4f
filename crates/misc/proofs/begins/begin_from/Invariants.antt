-- `misc::begins::begin_from` meets its contract: behind a misc the answer is that of what is left.
use Prim.Native.Nat.{◌-◌}
use mathlib.Core.Path.{◌≡◌}
use lib.ListN.{length}
use Rattle.lexer.specs.Begins.{begin_at}
use Rattle.misc.proofs.begins.begin_from.Given as goal

abbrev pub invariant-loop-event : goal.invariant-loop-event
invariant-loop-event l = begin_at l.s l.i l.inside l.closed ≡ begin_at l.s l.at l.inside l.closed

abbrev pub decreases-loop-event : goal.decreases-loop-event
decreases-loop-event l = length l.s - l.i
