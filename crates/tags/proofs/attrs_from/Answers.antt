-- `tags::attrs_from` meets its contract: at each turn the answer is that of the attributes stored and of those from `at` on.
use Rattle.std.proofs.Common.{◌≡◌, ap, ◌∙◌, Ok, Err, rules}
use native.Mathlib.Omega.{arith}
use Rattle.lexer.proofs.Inside.{attribute_in}
use Rattle.lexer.proofs.Filled.{start, closed, stopped, seventeenth, refused, more}
use Rattle.tags.proofs.attrs_from.Goals as goal

pub loop-next-init : goal.loop-next-init
loop-next-init c = start _ _ _

pub returns-in-Close : goal.returns-in-Close
returns-in-Close c = let r = closed _ _ _ _ _ _ c.loop-next.invariant _ c.turn_at.ensures _ _ (c.in_ok-next.was ∙ ap Ok c.in-Close.is) in record { answer = r.0; array = r.1 }

pub returns-then-count-eq16 : goal.returns-then-count-eq16
returns-then-count-eq16 c = let r = seventeenth _ _ _ _ _ _ c.loop-next.invariant _ c.turn_at.ensures _ (c.in_ok-next.was ∙ ap Ok c.in-Attribute.is) (omega (arith, c.loop-next.invariant.few, c.if-count-eq16.true)) in record { answer = r.0; array = r.1 }

pub put_attr-requires : goal.put_attr-requires
put_attr-requires c = (omega (arith, c.loop-next.invariant.few, c.if-count-eq16.false), search rules)

pub overflow_add-at : goal.overflow_add-at
overflow_add-at c = omega (arith, (attribute_in _ _ _ _ c.attribute_at.ensures c.in_ok-a-in-Attribute.was).inside)

pub loop-next-smaller : goal.loop-next-smaller
loop-next-smaller c = omega (arith, c.loop-next.invariant.few, c.if-count-eq16.false)

pub loop-next-preserved : goal.loop-next-preserved
loop-next-preserved c = more _ _ _ _ _ _ c.loop-next.invariant _ c.turn_at.ensures _ (c.in_ok-next.was ∙ ap Ok c.in-Attribute.is) c.if-count-eq16.false _ c.attribute_at.ensures _ c.in_ok-a-in-Attribute.was _ c.put_attr.ensures

pub returns-in_err-a-in-Attribute-clause-answer : goal.returns-in_err-a-in-Attribute-clause-answer
returns-in_err-a-in-Attribute-clause-answer c =
    let e : c.from_residual-in_err-a-in-Attribute.result ≡ Err c.in_err-a-in-Attribute.field-0.0 = search rules in
    e ∙ (refused _ _ _ _ _ _ c.loop-next.invariant _ c.turn_at.ensures _ (c.in_ok-next.was ∙ ap Ok c.in-Attribute.is) c.if-count-eq16.false _ c.attribute_at.ensures _ c.in_err-a-in-Attribute.was).0

pub returns-in_err-a-in-Attribute-clause-array : goal.returns-in_err-a-in-Attribute-clause-array
returns-in_err-a-in-Attribute-clause-array c =
    (refused _ _ _ _ _ _ c.loop-next.invariant _ c.turn_at.ensures _ (c.in_ok-next.was ∙ ap Ok c.in-Attribute.is) c.if-count-eq16.false _ c.attribute_at.ensures _ c.in_err-a-in-Attribute.was).1

pub returns-in_err-next-clause-answer : goal.returns-in_err-next-clause-answer
returns-in_err-next-clause-answer c =
    let e : c.from_residual.result ≡ Err c.in_err-next.field-0.0 = search rules in
    e ∙ (stopped _ _ _ _ _ _ c.loop-next.invariant _ c.turn_at.ensures _ c.in_err-next.was).0

pub returns-in_err-next-clause-array : goal.returns-in_err-next-clause-array
returns-in_err-next-clause-array c = (stopped _ _ _ _ _ _ c.loop-next.invariant _ c.turn_at.ensures _ c.in_err-next.was).1
