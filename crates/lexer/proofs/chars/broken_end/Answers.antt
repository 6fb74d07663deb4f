-- `lexer::chars::broken_end` meets its contract: at each turn the answer is the machine's from `i` on.
use Rattle.lexer.proofs.CharTurns.{held_first, held_out, held_bad, held_whole, held_on}
use Rattle.lexer.proofs.chars.broken_end.Goals as goal

pub loop-i-init : goal.loop-i-init
loop-i-init c = held_first _ _ _ _ c.fresh_form-f.ensures

pub returns-then-not-can_begin : goal.returns-then-not-can_begin
returns-then-not-can_begin c = search held_bad

pub returns-then-g-eq0 : goal.returns-then-g-eq0
returns-then-g-eq0 c = search held_whole

pub loop-i-preserved : goal.loop-i-preserved
loop-i-preserved c = search held_on

pub returns : goal.returns
returns c = search held_out
