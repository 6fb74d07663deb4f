-- `misc::begins::either_at` meets its contract: the tests on the way to each `return` say which case it is.
use Rattle.laws.specs.Tests.{tests}
use Rattle.lexer.specs.Begins.{either_at}
use Rattle.misc.proofs.begins.either_at.Goals as goal

pub returns-then-s-at : goal.returns-then-s-at
unfolding either_at
returns-then-s-at c = search tests

pub returns-then-s-at-eq60 : goal.returns-then-s-at-eq60
unfolding either_at
returns-then-s-at-eq60 c = search tests

pub returns-then-inside : goal.returns-then-inside
unfolding either_at
returns-then-inside c = search tests

pub returns : goal.returns
unfolding either_at
returns c = search tests
