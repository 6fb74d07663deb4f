-- `misc::declaration::standalone_end` meets its contract, by the cases of what its callees answer.
use Rattle.std.proofs.Common.{rules}
use Rattle.lexer.specs.Declaration.{standalone_end}
use Rattle.misc.proofs.declaration.standalone_end.Goals as goal

pub returns-in_err-i : goal.returns-in_err-i
unfolding standalone_end
returns-in_err-i c = rw (← c.in_err-i.ensures) (search rules)

pub returns : goal.returns
unfolding standalone_end
returns c = rw (← c.in_ok-i.ensures) (search rules)
