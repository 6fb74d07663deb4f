-- `values::is_closing` meets its contract: what it tests before it reads is what the definition does.
use native.Mathlib.Omega.{arith}
use lib.ListN.{length}
use Rattle.lexer.proofs.Passing.{closing_other, closing_outside, closing_inside, closing_early, closing_here}
use Rattle.values.proofs.is_closing.Goals as goal

pub returns-then-quote-b : goal.returns-then-quote-b
returns-then-quote-b c = search closing_other

pub returns-then-s-i : goal.returns-then-s-i
returns-then-s-i c = search closing_outside

pub overflow_sub-i : goal.overflow_sub-i
overflow_sub-i c = omega (arith, closing_inside (length c.args.s.now) c.args.i c.if-s-i.false)

pub returns-then-i-at : goal.returns-then-i-at
returns-then-i-at c = closing_early _ _ _ _ _ (omega arith)

pub overflow_sub-result : goal.overflow_sub-result
overflow_sub-result c = omega (arith, closing_inside (length c.args.s.now) c.args.i c.if-s-i.false)

pub bounds-s-i : goal.bounds-s-i
bounds-s-i c = omega (arith, closing_inside (length c.args.s.now) c.args.i c.if-s-i.false)

pub overflow_sub-result-2 : goal.overflow_sub-result-2
overflow_sub-result-2 c = omega (arith, closing_inside (length c.args.s.now) c.args.i c.if-s-i.false)

pub bounds-s-i-2 : goal.bounds-s-i-2
bounds-s-i-2 c = omega (arith, closing_inside (length c.args.s.now) c.args.i c.if-s-i.false)

pub returns : goal.returns
returns c = closing_here _ _ _ _ _ c.if-quote-b.false (omega (arith, closing_inside (length c.args.s.now) c.args.i c.if-s-i.false, c.if-i-at.false))
