-- `values::line_passed` meets its contract: 0A is a byte of a text.
use Rattle.lexer.proofs.Passing.{line_passed}
use Rattle.values.proofs.line_passed.Goals as goal

pub returns-then-s-at-eq10 : goal.returns-then-s-at-eq10
returns-then-s-at-eq10 c = search line_passed
