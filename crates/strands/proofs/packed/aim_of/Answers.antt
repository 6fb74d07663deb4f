-- `aim_of` reads a target and its bit.
use Rattle.strands.proofs.Words.{aim_some, aim_none}
use Rattle.strands.proofs.packed.aim_of.Goals as goal

pub returns-then-w-eq1 : goal.returns-then-w-eq1
returns-then-w-eq1 c = aim_some c.args.w _ c.if-w-eq1.true c.target_of.ensures

pub returns-else-w-eq1 : goal.returns-else-w-eq1
returns-else-w-eq1 c = aim_none c.args.w c.if-w-eq1.false
