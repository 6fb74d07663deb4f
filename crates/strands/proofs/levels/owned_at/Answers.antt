-- `strands::levels::owned_at` meets its contract: the third.
use Prim.Native.Nat.{◌+◌, ◌*◌}
use mathlib.Core.Path.{sym, ◌∙◌}
use Rattle.strands.proofs.LevelNumbers.{each_is}
use native.Mathlib.Omega.{arith}
use Rattle.strands.proofs.levels.owned_at.Goals as goal

pub returns : goal.returns
returns c =
    let a = c.args in
    c.number_at.ensures ∙ sym (each_is 3 0 a.levels.now a.level 2 (3 * a.level + 2) (24 * a.level + 2) (omega arith) (omega arith) (omega arith) (omega arith))
