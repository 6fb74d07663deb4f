-- `lexer::names::part_chars` meets its contract: a character that stands whole within the 64 bytes changes no answer.
use native.Mathlib.Omega.{arith}
use Rattle.lexer.proofs.CharTurns.{whole_inside}
use Rattle.lexer.proofs.Parts.{part_over}
use Rattle.lexer.proofs.names.part_chars.Goals as goal

pub overflow_add-i : goal.overflow_add-i
overflow_add-i c = omega (arith, whole_inside _ c.args.s.now c.loop-i.i _ c.in-Some.ensures.1)

pub loop-i-preserved : goal.loop-i-preserved
loop-i-preserved c =
    let l = c.loop-i in
    let a = c.args in
    let n = c.in-Some.ensures in
    (omega (arith, l.invariant.0), omega (arith, l.invariant.0, c.if-i-at-gt64.false), part_over a.s.now a.at a.from l.i _ l.invariant.0 (omega (arith, l.invariant.0, c.if-i-at-gt64.false)) (λ z. omega (arith, n.0)) l.invariant.2 n.1)
