-- `arrays::part_levels` meets its contract: the numbers of the first k levels are laid down.
use Prim.Native.Nat.{◌*◌}
use Rattle.openings.proofs.LevelArrays.{Parting}
use Rattle.openings.proofs.arrays.part_levels.Given as goal

abbrev pub invariant-loop-k : goal.invariant-loop-k
invariant-loop-k l = Parting l.levels l.initial.numbers l.wide l.from l.numbers (l.wide * l.k) l.k
