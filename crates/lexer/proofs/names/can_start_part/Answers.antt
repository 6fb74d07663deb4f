-- `lexer::names::can_start_part` meets its contract: a byte below 80 by the test of such bytes, any other by its form.
use mathlib.Core.Path.{◌∙◌}
use Rattle.lexer.proofs.NameBits.{start_ascii}
use Rattle.lexer.proofs.names.can_start_part.Goals as goal

pub returns-then-b-lt128 : goal.returns-then-b-lt128
returns-then-b-lt128 c = c.is_start.ensures ∙ start_ascii _ c.if-b-lt128.true
