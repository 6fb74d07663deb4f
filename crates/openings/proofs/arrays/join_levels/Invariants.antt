-- `arrays::join_levels` meets its contract: the first k levels are joined.
use Rattle.openings.proofs.LevelArrays.{Joining}
use Rattle.openings.proofs.arrays.join_levels.Given as goal

abbrev pub invariant-loop-k : goal.invariant-loop-k
invariant-loop-k l = Joining l.initial.levels l.names l.spaces l.strands l.levels l.k
