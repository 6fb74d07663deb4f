-- `misc::begins::begin_from` meets its contract: behind a misc the answer is that of what is left.
use mathlib.Core.Path.{refl}
use native.Mathlib.Omega.{arith}
use Rattle.misc.proofs.BeginTurns.{begin_event, begin_misc, misc_onward}
use Rattle.misc.proofs.begins.begin_from.Goals as goal

pub loop-event-init : goal.loop-event-init
loop-event-init c = refl

pub returns-in-Break : goal.returns-in-Break
returns-in-Break c = search begin_event

pub loop-event-smaller : goal.loop-event-smaller
loop-event-smaller c = omega (arith, misc_onward _ _ _ _ _ c.ahead_at.ensures _ c.in-Continue.is)

pub loop-event-preserved : goal.loop-event-preserved
loop-event-preserved c = search begin_misc
