-- `lexer::chars::whole_len` meets its contract: the bytes so far are what the form says, and a form that is whole and allowed is the character.
use native.Mathlib.Omega.{arith}
use Rattle.lexer.proofs.CharTurns.{whole_first, whole_on, whole_found}
use Rattle.lexer.proofs.chars.whole_len.Goals as goal

pub loop-i-init : goal.loop-i-init
loop-i-init c = whole_first _ _ _ c.fresh_form-f.ensures

pub returns-then-can_begin : goal.returns-then-can_begin
returns-then-can_begin c =
    let l = c.loop-i in
    (omega (arith, l.invariant.far), whole_found _ _ _ l.i l.invariant (omega arith) _ c.next_form-f.ensures _ _ c.can_begin.ensures c.if-can_begin.true c.if-f-eq0.true)

pub loop-i-preserved : goal.loop-i-preserved
loop-i-preserved c = search whole_on
