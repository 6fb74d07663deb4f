-- `levels::counts_add_up` meets its contract: what is left of the bound, and the counts so far, are the bound.
use Prim.Native.Nat.{◌+◌}
use mathlib.Core.Path.{◌≡◌}
use Rattle.reader.specs.Counted.{count_of}
use Rattle.strands.specs.Levels.{level_names}
use Rattle.coherence.proofs.levels.counts_add_up.Given as goal

abbrev pub invariant-loop-k : goal.invariant-loop-k
invariant-loop-k l = l.left + count_of (level_names l.levels) l.k ≡ l.bound
