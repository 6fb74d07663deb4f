-- `misc::declaration::encoding_end` meets its contract: the tests on the way to each `return` say which case it is.
use Rattle.laws.specs.Tests.{tests}
use Rattle.lexer.specs.Declaration.{encoding_end}
use Rattle.misc.proofs.declaration.encoding_end.Goals as goal

pub returns-then-s-at : goal.returns-then-s-at
unfolding encoding_end
returns-then-s-at c = search tests

pub returns-then-is_letter : goal.returns-then-is_letter
unfolding encoding_end
returns-then-is_letter c = search tests

pub returns : goal.returns
unfolding encoding_end
returns c = search tests
