-- `tags::want` meets its contract: the tests on the way to each `return` say which case it is.
use Rattle.laws.specs.Tests.{tests}
use Rattle.lexer.specs.Tags.{wanted}
use Rattle.tags.proofs.want.Goals as goal

pub returns-then-s-at : goal.returns-then-s-at
unfolding wanted
returns-then-s-at c = search tests

pub returns-then-s-at-2 : goal.returns-then-s-at-2
unfolding wanted
returns-then-s-at-2 c = search tests

pub returns : goal.returns
unfolding wanted
returns c = search tests
