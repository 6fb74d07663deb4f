-- `write_event` lays the rows of the strands: those of the first j after j turns.
use mathlib.Core.Path.{◌≡◌}
use mathlib.Core.List.{map}
use Prim.Native.Nat.{◌≤◌}
use lib.ListN.{length}
use Rattle.laws.specs.Gather.{gather}
use Rattle.records.specs.Rows.{laid, laid_rows, body_of}
use Rattle.strands.specs.Packed.{words_at}
use Rattle.strands.specs.Levels.{level_strands}
use Rattle.strands.specs.Writing.{row_of, event_records}
use Rattle.strands.proofs.events.write_event.Given as goal

abbrev pub invariant-loop-j : goal.invariant-loop-j
invariant-loop-j l =
    (l.j ≤ l.n)
    × (length l.out ≡ length l.initial.out)
    × (laid l.out l.used ≡ laid_rows (laid l.initial.out 0) (map row_of (gather (event_records (body_of l.row) l.closes) (words_at (level_strands l.levels) l.level l.j))))
