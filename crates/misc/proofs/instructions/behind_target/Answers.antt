-- `misc::instructions::behind_target` meets its contract: the tests on the way to each `return` say which case it is.
use Rattle.laws.specs.Tests.{tests}
use Rattle.lexer.specs.Misc.{behind_target}
use Rattle.misc.proofs.instructions.behind_target.Goals as goal

pub returns-then-s-at : goal.returns-then-s-at
unfolding behind_target
returns-then-s-at c = search tests

pub returns-then-is_space : goal.returns-then-is_space
unfolding behind_target
returns-then-is_space c = search tests

pub returns-then-s-at-eq63 : goal.returns-then-s-at-eq63
unfolding behind_target
returns-then-s-at-eq63 c = search tests

pub returns : goal.returns
unfolding behind_target
returns c = search tests
