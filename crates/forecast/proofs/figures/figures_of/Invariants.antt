-- `forecast::figures::figures_of` meets its contract: the figures so far are those of the events taken.
use Rattle.reader.proofs.Progress.{left_of}
use Rattle.sessions.specs.Sessions.{reader_of, session_at}
use Rattle.sessions.specs.Turns.{Beside}
use Rattle.forecast.proofs.Figured.{Figured}
use Rattle.forecast.proofs.figures.figures_of.Given as goal

abbrev pub invariant-loop-levels : goal.invariant-loop-levels
invariant-loop-levels l =
    Figured l.table l.scene (session_at l.head l.levels l.bindings) l.records l.strands l.depth × Beside l.table l.scene l.known (session_at l.head l.levels l.bindings)

abbrev pub decreases-loop-levels : goal.decreases-loop-levels
decreases-loop-levels l =
    left_of l.scene (reader_of (session_at l.head l.levels l.bindings))
