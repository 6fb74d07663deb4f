-- `strands::levels::strand_at` meets its contract: one of the last sixteen.
use Prim.Native.Nat.{◌+◌, ◌*◌}
use mathlib.Core.Path.{sym, ◌∙◌}
use Rattle.strands.proofs.LevelNumbers.{each_is}
use native.Mathlib.Omega.{arith}
use Rattle.strands.proofs.levels.strand_at.Goals as goal

pub returns : goal.returns
returns c =
    let a = c.args in
    c.number_at.ensures ∙ sym (each_is 16 8 a.levels.now a.level a.k (16 * a.level + a.k) (24 * a.level + (8 + a.k)) (omega arith) (omega arith) (omega arith) (omega arith))
