-- `misc::instructions::content_end` meets its contract: at each turn the answer is the machine's from `i` on, in the state 1 behind a ? and 0 else.
use Rattle.std.proofs.Common.{rules, Err}
use mathlib.Core.Path.{◌≡◌, refl, ◌∙◌}
use native.Mathlib.Omega.{arith}
use Rattle.laws.specs.Reading.{machine}
use Rattle.lexer.specs.Misc.{content_end}
use Rattle.lexer.proofs.Passing.{char_in}
use Rattle.lexer.proofs.CharTurns.{char_taken, char_refused}
use Rattle.misc.proofs.MiscTurns.{behind_flag}
use Rattle.misc.proofs.FreeTurns.{content_stops, content_passed}
use Rattle.misc.proofs.instructions.content_end.Goals as goal

pub loop-i-init : goal.loop-i-init
unfolding content_end
loop-i-init c = refl

pub returns-then-behind-b : goal.returns-then-behind-b
returns-then-behind-b c = search (machine, behind_flag)

pub returns-then-not-is_char : goal.returns-then-not-is_char
returns-then-not-is_char c =
    let l = c.loop-i in
    let lt = c.loop-i-test.true in
    let r = char_refused _ l.i lt c.if-b-lt128.true _ c.is_char.ensures c.if-not-is_char.true in
    content_stops _ _ l.behind l.i l.invariant lt c.if-behind-b.false _ r _ refl

pub loop-i-preserved-then-b-lt128 : goal.loop-i-preserved-then-b-lt128
loop-i-preserved-then-b-lt128 c =
    let l = c.loop-i in
    let lt = c.loop-i-test.true in
    let r = char_taken _ l.i lt c.if-b-lt128.true _ c.is_char.ensures c.if-not-is_char.false in
    content_passed _ _ l.behind l.i l.invariant lt c.if-behind-b.false _ r _ refl

pub loop-i-smaller : goal.loop-i-smaller
loop-i-smaller c = omega (arith, char_in _ _ _ _ _ c.char_end.ensures c.in_ok-i.was, c.loop-i-test.true)

pub loop-i-preserved : goal.loop-i-preserved
loop-i-preserved c =
    let l = c.loop-i in
    content_passed _ _ l.behind l.i l.invariant c.loop-i-test.true c.if-behind-b.false _ c.char_end.ensures _ c.in_ok-i.was

pub returns-in_err-i : goal.returns-in_err-i
returns-in_err-i c =
    let l = c.loop-i in
    let e : c.from_residual.result ≡ Err c.in_err-i.field-0.0 = search rules in
    e ∙ content_stops _ _ l.behind l.i l.invariant c.loop-i-test.true c.if-behind-b.false _ c.char_end.ensures _ c.in_err-i.was

pub returns : goal.returns
returns c = search machine
