-- `lexer::names::spaces_end` meets its contract: at each turn the answer is the machine's from `i` on.
use mathlib.Core.Path.{refl}
use Rattle.laws.specs.Reading.{machine}
use Rattle.lexer.specs.Names.{spaces_end}
use Rattle.lexer.proofs.names.spaces_end.Goals as goal

pub loop-i-init : goal.loop-i-init
unfolding spaces_end
loop-i-init c = refl

pub loop-i-preserved : goal.loop-i-preserved
loop-i-preserved c = search machine

pub returns-then-not-is_space : goal.returns-then-not-is_space
returns-then-not-is_space c = search machine

pub returns : goal.returns
returns c = search machine
