-- `levels::same_levels` meets its contract: at each turn the answer is that of the levels from the k-th on.
use native.Mathlib.Omega.{arith}
use Rattle.strands.specs.Levels.{level_spaces}
use Rattle.equality.proofs.Each.{rows_start, rows_done, rows_out, rows_on}
use Rattle.equality.proofs.Turns.{level_few}
use Rattle.equality.proofs.levels.same_levels.Goals as goal

pub loop-k-init : goal.loop-k-init
loop-k-init c = search rows_start

pub same_level-requires : goal.same_level-requires
same_level-requires c =
    let a = c.args in
    (omega arith, level_few (level_spaces a.levels.now) a.depth c.requires.1 c.loop-k.k c.loop-k-test.true)

pub returns-then-not-same_level : goal.returns-then-not-same_level
returns-then-not-same_level c = search rows_out

pub loop-k-preserved : goal.loop-k-preserved
loop-k-preserved c = search rows_on

pub returns : goal.returns
returns c = search rows_done
