-- `lexer::chars::can_start` meets its contract.
use Rattle.lexer.proofs.CharTurns.{start_told}
use Rattle.lexer.proofs.chars.can_start.Goals as goal

pub returns : goal.returns
returns c = start_told _ _ _ _ _ c.fresh_form.ensures c.next_form.ensures c.can_begin.ensures
