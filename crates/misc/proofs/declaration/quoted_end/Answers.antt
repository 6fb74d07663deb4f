-- `misc::declaration::quoted_end` meets its contract: the tests on the way to each `return` say which case it is.
use Rattle.laws.specs.Tests.{tests}
use Rattle.lexer.specs.Declaration.{quoted_end}
use Rattle.misc.proofs.declaration.quoted_end.Goals as goal

pub returns-then-s-at : goal.returns-then-s-at
unfolding quoted_end
returns-then-s-at c = search tests

pub returns-then-quote : goal.returns-then-quote
unfolding quoted_end
returns-then-quote c = search tests

pub returns : goal.returns
unfolding quoted_end
returns c = search tests
