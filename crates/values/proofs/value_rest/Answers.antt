-- `values::value_rest` meets its contract: at each turn the answer is that of what is left.
use Rattle.std.proofs.Common.{rules, Ok, Err}
use mathlib.Core.Path.{◌≡◌, refl, ◌∙◌, ap}
use native.Mathlib.Omega.{arith}
use Rattle.laws.specs.Reading.{machine}
use Rattle.laws.specs.Tests.{told}
use Rattle.lexer.specs.Values.{value_from}
use Rattle.lexer.proofs.ValueLaws.{closes_behind}
use Rattle.lexer.proofs.CharTurns.{text_taken, text_refused, text_high}
use Rattle.lexer.proofs.Passing.{plain_passed, text_closes, text_stops, text_passed, reference_in, char_in, reference_passed, reference_stops, passed_on}
use mathlib.Core.Bool.{not}
use Rattle.values.proofs.value_rest.Goals as goal

pub loop-i-init : goal.loop-i-init
unfolding value_from
loop-i-init c = refl

pub returns-then-b-quote : goal.returns-then-b-quote
returns-then-b-quote c = search machine

pub loop-i-smaller-then-b-eq38 : goal.loop-i-smaller-then-b-eq38
loop-i-smaller-then-b-eq38 c = let a = c.args in omega (arith, reference_in a.s.now c.loop-i.i _ _ c.reference_end.ensures c.in_ok-j.was, c.plain_end-i.ensures.0)

pub loop-i-preserved-then-b-eq38 : goal.loop-i-preserved-then-b-eq38
loop-i-preserved-then-b-eq38 c = passed_on _ _ _ _ _ _ (plain_passed _ _ _ _ _ c.plain_end-i.ensures) (let w : c.reference_end.result ≡ Ok c.in_ok-j.j = c.in_ok-j.was in search reference_passed)

pub returns-in_err-j : goal.returns-in_err-j
returns-in_err-j c =
    let e : c.from_residual.result ≡ Err c.in_err-j.field-0.0 = search rules in
    let w : c.reference_end.result ≡ Err c.in_err-j.field-0.0 = c.in_err-j.was in
    rw e (search reference_stops)

pub overflow_sub-result : goal.overflow_sub-result
overflow_sub-result c = omega (arith, closes_behind _ _ _ _ _ (told _ _ _ c.is_closing.ensures c.if-is_closing.true))

pub returns-then-is_closing : goal.returns-then-is_closing
returns-then-is_closing c =
    let d = c in
    let a = d.args in
    let l = d.loop-i in
    text_closes _ a.s.now a.at a.quote l.i l.invariant d.loop-i-test.true d.if-b-quote.false d.if-b-eq38.false _ c.is_closing.ensures c.if-is_closing.true

pub returns-then-not-is_text : goal.returns-then-not-is_text
returns-then-not-is_text c =
    let l = c.loop-i in
    let a = c.args in
    let lt = c.loop-i-test.true in
    text_stops _ a.s.now a.at a.quote l.i l.invariant lt c.if-b-quote.false c.if-b-eq38.false _ c.is_closing.ensures c.if-is_closing.false _ (text_refused a.s.now l.i lt c.if-b-lt128.true _ c.is_text.ensures (ap not c.if-not-is_text.true)) _ refl

pub loop-i-smaller-then-b-lt128 : goal.loop-i-smaller-then-b-lt128
loop-i-smaller-then-b-lt128 c = omega (arith, c.plain_end-i-then-b-lt128.ensures.0, c.loop-i-test.true)

pub loop-i-preserved-then-b-lt128 : goal.loop-i-preserved-then-b-lt128
loop-i-preserved-then-b-lt128 c =
    let l = c.loop-i in
    let a = c.args in
    let lt = c.loop-i-test.true in
    passed_on _ _ _ _ _ _ (plain_passed _ _ _ _ _ c.plain_end-i-then-b-lt128.ensures)
    (text_passed _ a.s.now a.at a.quote l.i l.invariant lt c.if-b-quote.false c.if-b-eq38.false _ c.is_closing.ensures c.if-is_closing.false _ (text_taken a.s.now l.i lt c.if-b-lt128.true _ c.is_text.ensures (ap not c.if-not-is_text.false)) _ refl)

pub loop-i-smaller : goal.loop-i-smaller
loop-i-smaller c = omega (arith, c.plain_end-i-else-b-lt128.ensures.0, c.high_end.ensures.0, c.loop-i-test.true, char_in _ _ _ _ _ c.char_end.ensures c.in_ok-j-2.was)

pub loop-i-preserved : goal.loop-i-preserved
loop-i-preserved c =
    let l = c.loop-i in
    let a = c.args in
    let lt = c.loop-i-test.true in
    passed_on _ _ _ _ _ _ (plain_passed _ _ _ _ _ c.plain_end-i-else-b-lt128.ensures ∙ c.high_end.ensures.1)
    (text_passed _ a.s.now a.at a.quote l.i l.invariant lt c.if-b-quote.false c.if-b-eq38.false _ c.is_closing.ensures c.if-is_closing.false _ (text_high a.s.now l.i lt c.if-b-lt128.false _ c.char_end.ensures) _ c.in_ok-j-2.was)

pub returns-in_err-j-2 : goal.returns-in_err-j-2
returns-in_err-j-2 c =
    let e : c.from_residual-in_err-j-2.result ≡ Err c.in_err-j-2.field-0.0 = search rules in
    let l = c.loop-i in
    let a = c.args in
    let lt = c.loop-i-test.true in
    rw e (text_stops _ a.s.now a.at a.quote l.i l.invariant lt c.if-b-quote.false c.if-b-eq38.false _ c.is_closing.ensures c.if-is_closing.false _ (text_high a.s.now l.i lt c.if-b-lt128.false _ c.char_end.ensures) _ c.in_err-j-2.was)

pub returns : goal.returns
returns c = search machine
