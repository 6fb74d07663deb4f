-- `levels::count_in` meets its contract, also past the array.
use Rattle.strands.specs.Levels.{level_names}
use Rattle.strands.proofs.LevelNumbers.{each_long}
use Rattle.coherence.proofs.CheckTurns.{count_past}
use Rattle.coherence.proofs.levels.count_in.Goals as goal

pub returns-else-k-lt-DEPTH : goal.returns-else-k-lt-DEPTH
returns-else-k-lt-DEPTH c = let a = c.args in count_past (level_names a.levels.now) a.k (each_long 3 0 a.levels.now) c.if-k-lt-DEPTH.false
