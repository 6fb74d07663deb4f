-- `event_count` sums what the strands write: that of the first j after j turns.
use mathlib.Core.Path.{◌≡◌}
use Prim.Native.Nat.{◌-◌, ◌*◌, ◌≤◌}
use Rattle.laws.specs.Gather.{total}
use Rattle.strands.specs.Packed.{words_at}
use Rattle.strands.specs.Levels.{level_strands}
use Rattle.strands.specs.Writing.{event_count}
use Rattle.strands.proofs.events.event_count.Given as goal

abbrev pub invariant-loop-j : goal.invariant-loop-j
invariant-loop-j l = (l.j ≤ l.n) × (l.k ≤ 2 * l.j) × (l.k ≡ total (event_count l.closes) (words_at (level_strands l.levels) l.level l.j))

abbrev pub decreases-loop-j : goal.decreases-loop-j
decreases-loop-j l = l.n - l.j
