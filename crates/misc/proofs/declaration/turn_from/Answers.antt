-- `misc::declaration::turn_from` meets its contract: the tests on the way to each `return` say which case it is.
use Rattle.laws.specs.Tests.{tests}
use Rattle.lexer.specs.Declaration.{turn_from}
use Rattle.misc.proofs.declaration.turn_from.Goals as goal

pub returns-then-s-i : goal.returns-then-s-i
unfolding turn_from
returns-then-s-i c = search tests

pub returns-then-s-i-eq63 : goal.returns-then-s-i-eq63
unfolding turn_from
returns-then-s-i-eq63 c = search tests

pub returns-then-i-at : goal.returns-then-i-at
unfolding turn_from
returns-then-i-at c = search tests

pub returns : goal.returns
unfolding turn_from
returns c = search tests
