-- `values::value_end` meets its contract: what is passed over at once changes no answer.
use mathlib.Core.Path.{◌∙◌}
use Rattle.lexer.proofs.Passing.{plain_passed, quote_here}
use Rattle.values.proofs.value_end.Goals as goal

pub returns-then-s-i : goal.returns-then-s-i
returns-then-s-i c = quote_here _ _ _ _ _ (plain_passed _ _ _ _ _ c.plain_end-i.ensures) c.if-i-s.true c.if-s-i.true

pub returns : goal.returns
returns c = c.value_rest.ensures ∙ plain_passed _ _ _ _ _ c.plain_end-i.ensures
