-- `strands::levels::name_at` meets its contract: the first two numbers of a level.
use Rattle.strands.proofs.LevelNumbers.{name_of}
use native.Mathlib.Omega.{arith}
use Rattle.strands.proofs.levels.name_at.Goals as goal

pub returns : goal.returns
returns c =
    let a = c.args in
    name_of a.levels.now a.level _ _ (omega arith) c.number_at.ensures c.number_at-2.ensures
