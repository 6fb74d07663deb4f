-- `ends::is_full` meets its contract: where two records for each strand fit, all do.
use Prim.Native.Nat.{◌*◌}
use mathlib.Core.Path.{◌∙◌}
use native.Mathlib.Omega.{arith}
use borrow.Author.Tests.{le-ltb}
use Rattle.strands.specs.Levels.{level_strands}
use Rattle.sessions.proofs.EventTurns.{not_full}
use Rattle.turns.proofs.ends.is_full.Goals as goal

pub returns-else-len-n : goal.returns-else-len-n
returns-else-len-n c = let a = c.args in le-ltb a.len (32 * a.n) (omega arith) ∙ not_full a.len (level_strands a.levels.now) a.level a.n a.closes (omega arith)
