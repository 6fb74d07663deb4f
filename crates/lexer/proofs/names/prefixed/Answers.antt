-- `lexer::names::prefixed` meets its contract, by the cases of what its callees answer.
use Rattle.std.proofs.Common.{rules}
use Rattle.lexer.specs.Names.{prefixed_at}
use Rattle.lexer.proofs.names.prefixed.Goals as goal

pub returns-in_err-end : goal.returns-in_err-end
unfolding prefixed_at
returns-in_err-end c = rw (← c.in_err-end.ensures) (search rules)

pub returns : goal.returns
unfolding prefixed_at
returns c = rw (← c.in_ok-end.ensures)
