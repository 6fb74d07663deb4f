-- `misc::instructions::comment_rest` meets its contract: at each turn the answer is the machine's from `i` on, its state the hyphens that stand before.
use Rattle.std.proofs.Common.{rules, Err}
use mathlib.Core.Path.{◌≡◌, refl, ◌∙◌}
use native.Mathlib.Omega.{arith}
use Rattle.laws.specs.Reading.{machine}
use Rattle.lexer.specs.Misc.{comment_rest}
use Rattle.lexer.proofs.Passing.{char_in}
use Rattle.lexer.proofs.CharTurns.{char_taken, char_refused}
use Rattle.misc.proofs.FreeTurns.{hyphen_goes, comment_stops, comment_passed}
use Rattle.misc.proofs.instructions.comment_rest.Goals as goal

pub loop-i-init : goal.loop-i-init
unfolding comment_rest
loop-i-init c = (omega arith, refl)

pub returns-then-b-eq62 : goal.returns-then-b-eq62
returns-then-b-eq62 c = search machine

pub returns-then-hyphens-eq2 : goal.returns-then-hyphens-eq2
returns-then-hyphens-eq2 c = search machine

pub loop-i-preserved-then-b-eq45 : goal.loop-i-preserved-then-b-eq45
loop-i-preserved-then-b-eq45 c =
    let l = c.loop-i in
    (omega (arith, l.invariant.0, c.if-hyphens-eq2.false), hyphen_goes _ _ l.hyphens l.i l.invariant.1 c.loop-i-test.true c.if-hyphens-eq2.false c.if-b-eq45.true)

pub returns-then-not-is_char : goal.returns-then-not-is_char
returns-then-not-is_char c =
    let l = c.loop-i in
    let lt = c.loop-i-test.true in
    let r = char_refused _ l.i lt c.if-b-lt128.true _ c.is_char.ensures c.if-not-is_char.true in
    comment_stops _ _ l.hyphens l.i l.invariant.1 lt c.if-hyphens-eq2.false c.if-b-eq45.false _ r _ refl

pub loop-i-preserved-then-b-lt128 : goal.loop-i-preserved-then-b-lt128
loop-i-preserved-then-b-lt128 c =
    let l = c.loop-i in
    let lt = c.loop-i-test.true in
    let r = char_taken _ l.i lt c.if-b-lt128.true _ c.is_char.ensures c.if-not-is_char.false in
    (omega arith, comment_passed _ _ l.hyphens l.i l.invariant.1 lt c.if-hyphens-eq2.false c.if-b-eq45.false _ r _ refl)

pub loop-i-smaller : goal.loop-i-smaller
loop-i-smaller c = omega (arith, char_in _ _ _ _ _ c.char_end.ensures c.in_ok-i.was, c.loop-i-test.true)

pub loop-i-preserved : goal.loop-i-preserved
loop-i-preserved c =
    let l = c.loop-i in
    (omega arith, comment_passed _ _ l.hyphens l.i l.invariant.1 c.loop-i-test.true c.if-hyphens-eq2.false c.if-b-eq45.false _ c.char_end.ensures _ c.in_ok-i.was)

pub returns-in_err-i : goal.returns-in_err-i
returns-in_err-i c =
    let l = c.loop-i in
    let e : c.from_residual.result ≡ Err c.in_err-i.field-0.0 = search rules in
    e ∙ comment_stops _ _ l.hyphens l.i l.invariant.1 c.loop-i-test.true c.if-hyphens-eq2.false c.if-b-eq45.false _ c.char_end.ensures _ c.in_err-i.was

pub returns : goal.returns
returns c = search machine
