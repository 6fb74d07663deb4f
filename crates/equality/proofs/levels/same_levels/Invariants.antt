-- `levels::same_levels` meets its contract: at each turn the answer is that of the levels from the k-th on.
use Prim.Native.Nat.{◌-◌}
use mathlib.Core.Path.{◌≡◌}
use Rattle.laws.specs.Lists.{tabulate}
use Rattle.strands.specs.Levels.{level_names, level_spaces, level_strands}
use Rattle.equality.specs.Same.{same_each, same_level, held_level}
use Rattle.equality.proofs.levels.same_levels.Given as goal

abbrev pub invariant-loop-k : goal.invariant-loop-k
invariant-loop-k l =
    same_each same_level (tabulate (held_level (level_names l.levels) (level_spaces l.levels) (level_strands l.levels)) l.k (l.depth - l.k))
    (tabulate (held_level (level_names l.other) (level_spaces l.other) (level_strands l.other)) l.k (l.depth - l.k))
    ≡ same_each same_level (tabulate (held_level (level_names l.levels) (level_spaces l.levels) (level_strands l.levels)) 0 l.depth)
    (tabulate (held_level (level_names l.other) (level_spaces l.other) (level_strands l.other)) 0 l.depth)
