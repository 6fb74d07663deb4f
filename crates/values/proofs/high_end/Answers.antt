-- `values::high_end` meets its contract: a character from 80 on, at which the quote does not stand, changes no answer.
use mathlib.Core.Path.{refl}
use native.Mathlib.Nat.{le_refl}
use native.Mathlib.Omega.{arith}
use Rattle.lexer.proofs.Passing.{char_in, high_passed}
use Rattle.values.proofs.high_end.Goals as goal

pub loop-i-init : goal.loop-i-init
loop-i-init c = (le_refl _, refl)

pub loop-i-smaller : goal.loop-i-smaller
loop-i-smaller c =
    let l = c.loop-i in
    let d = c in
    omega (arith, char_in _ _ _ _ _ d.char_end.ensures c.in-Ok.is, c.loop-i-test.true)

pub loop-i-preserved : goal.loop-i-preserved
loop-i-preserved c =
    let l = c.loop-i in
    let d = c in
    let j = char_in _ _ _ _ _ d.char_end.ensures c.in-Ok.is in
    (omega (arith, j, l.invariant.0), high_passed _ _ _ _ l.i l.invariant.1 d.loop-i-test.true d.if-b-lt128.false d.if-b-quote.false _ d.char_end.ensures _ c.in-Ok.is)
