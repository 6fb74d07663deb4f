-- `misc::declaration::declaration_end` meets its contract, by the cases of what its callees answer.
use Rattle.std.proofs.Common.{rules}
use Rattle.laws.specs.Tests.{tests}
use Rattle.lexer.specs.Declaration.{declaration_end}
use Rattle.misc.proofs.declaration.declaration_end.Goals as goal

pub returns-then-s-at : goal.returns-then-s-at
unfolding declaration_end
returns-then-s-at c = search tests

pub returns-then-not-is_space : goal.returns-then-not-is_space
unfolding declaration_end
returns-then-not-is_space c = search tests

pub returns-in_err-i : goal.returns-in_err-i
unfolding declaration_end
returns-in_err-i c = rw (← c.in_err-i.ensures) (search (rules, tests))

pub returns : goal.returns
unfolding declaration_end
returns c = rw (← c.in_ok-i.ensures) (search tests)
