-- `strands::levels::space_at` meets its contract: one of the four behind them.
use Prim.Native.Nat.{◌+◌, ◌*◌}
use mathlib.Core.Path.{sym, ◌∙◌}
use Rattle.strands.proofs.LevelNumbers.{each_is}
use native.Mathlib.Omega.{arith}
use Rattle.strands.proofs.levels.space_at.Goals as goal

pub returns : goal.returns
returns c =
    let a = c.args in
    c.number_at.ensures ∙ sym (each_is 4 3 a.levels.now a.level a.k (4 * a.level + a.k) (24 * a.level + (3 + a.k)) (omega arith) (omega arith) (omega arith) (omega arith))
