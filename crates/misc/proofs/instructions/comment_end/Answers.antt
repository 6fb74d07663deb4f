-- `misc::instructions::comment_end` meets its contract, by the cases of what its callees answer.
use Rattle.std.proofs.Common.{rules}
use Rattle.lexer.specs.Misc.{comment_end}
use Rattle.misc.proofs.instructions.comment_end.Goals as goal

pub returns-in_err-i : goal.returns-in_err-i
unfolding comment_end
returns-in_err-i c = rw (← c.in_err-i.ensures) (search rules)

pub returns : goal.returns
unfolding comment_end
returns c = rw (← c.in_ok-i.ensures) (search rules)
