-- `levels::strands_within` meets its contract: at each turn the answer is that of the levels from the k-th on.
use Rattle.strands.specs.Levels.{level_spaces}
use Rattle.equality.proofs.Turns.{within_start, within_done, within_out, within_on}
use Rattle.equality.proofs.levels.strands_within.Goals as goal

pub loop-k-init : goal.loop-k-init
loop-k-init c = search within_start

pub returns-then-count_at-gt16 : goal.returns-then-count_at-gt16
returns-then-count_at-gt16 c = search within_out

pub loop-k-preserved : goal.loop-k-preserved
loop-k-preserved c = within_on (level_spaces c.args.levels.now) _ _ _ c.loop-k.invariant c.loop-k-test.true _ c.count_at.ensures c.if-count_at-gt16.false

pub returns : goal.returns
returns c = within_done (level_spaces c.args.levels.now) _ _ _ c.loop-k.invariant c.loop-k-test.false
