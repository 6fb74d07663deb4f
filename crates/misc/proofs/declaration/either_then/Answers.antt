-- `misc::declaration::either_then` meets its contract: the tests on the way to each `return` say which case it is.
use Rattle.laws.specs.Tests.{tests}
use Rattle.lexer.specs.Declaration.{either_then}
use Rattle.misc.proofs.declaration.either_then.Goals as goal

pub returns-then-s-at : goal.returns-then-s-at
unfolding either_then
returns-then-s-at c = search tests

pub returns-then-s-at-eq101 : goal.returns-then-s-at-eq101
unfolding either_then
returns-then-s-at-eq101 c = search tests

pub returns : goal.returns
unfolding either_then
returns c = search tests
