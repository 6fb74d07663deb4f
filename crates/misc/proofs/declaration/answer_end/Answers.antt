-- `misc::declaration::answer_end` meets its contract: the tests on the way to each `return` say which case it is.
use Rattle.laws.specs.Tests.{tests}
use Rattle.lexer.specs.Declaration.{answer_end}
use Rattle.misc.proofs.declaration.answer_end.Goals as goal

pub returns-then-s-at : goal.returns-then-s-at
unfolding answer_end
returns-then-s-at c = search tests

pub returns-then-s-at-eq121 : goal.returns-then-s-at-eq121
unfolding answer_end
returns-then-s-at-eq121 c = search tests

pub returns : goal.returns
unfolding answer_end
returns c = search tests
