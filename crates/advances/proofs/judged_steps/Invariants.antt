-- `steps::judged_steps` meets its contract: what is left to do is what was asked.
use mathlib.Core.Path.{◌≡◌}
use Rattle.strands.specs.Levels.{level_free}
use Rattle.sessions.specs.Sessions.{session_at}
use Rattle.sessions.specs.Turns.{Beside}
use Rattle.advances.proofs.RunTurns.{Going}
use Rattle.advances.proofs.judged_steps.Given as goal

abbrev pub invariant-loop-events : goal.invariant-loop-events
invariant-loop-events l =
    Going l.table l.scene (session_at l.initial.head l.initial.levels l.initial.bindings) l.initial.out l.most (session_at l.head l.levels l.bindings) l.out l.used l.events l.records
    × Beside l.table l.scene l.known (session_at l.head l.levels l.bindings)
    × (level_free l.levels ≡ level_free l.initial.levels)
