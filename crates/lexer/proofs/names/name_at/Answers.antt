-- `lexer::names::name_at` meets its contract, by the cases of what its callees answer.
use Rattle.std.proofs.Common.{rules}
use Rattle.laws.specs.Tests.{tests}
use Rattle.lexer.specs.Names.{name_at}
use Rattle.lexer.proofs.names.name_at.Goals as goal

pub returns-then-s-end : goal.returns-then-s-end
unfolding name_at
returns-then-s-end c = rw (← c.in_ok-end.ensures) (search tests)

pub returns-then-s-end-eq58 : goal.returns-then-s-end-eq58
unfolding name_at
returns-then-s-end-eq58 c = rw (← c.in_ok-end.ensures) (search tests)

pub returns : goal.returns
unfolding name_at
returns c = rw (← c.in_ok-end.ensures) (search tests)

pub returns-in_err-end : goal.returns-in_err-end
unfolding name_at
returns-in_err-end c = rw (← c.in_err-end.ensures) (search rules)
