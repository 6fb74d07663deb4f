-- `lanes::plain::plain_end` meets its contract: each turn passes over plain bytes.
use Rattle.std.proofs.Common.{le_refl, arith}
use Rattle.lanes.proofs.PlainLaws.{none_passed, some_passed, all_passed}
use Rattle.lanes.proofs.plain.plain_end.Goals as goal

pub loop-i-init : goal.loop-i-init
loop-i-init c = (le_refl _, none_passed _ _ _)

pub returns-then-bits-ne0 : goal.returns-then-bits-ne0
returns-then-bits-ne0 c =
    let l = c.loop-i in
    let n = c.bytes_before.ensures in
    (omega (arith, l.invariant.0), some_passed _ _ _ l.i _ _ l.invariant.0 l.invariant.1 c.word_at.ensures.bytes c.special_bits-bits.ensures _ n.0 n.1)

pub loop-i-preserved : goal.loop-i-preserved
loop-i-preserved c =
    let l = c.loop-i in
    (omega (arith, l.invariant.0), all_passed _ _ _ l.i _ _ l.invariant.0 l.invariant.1 c.word_at.ensures.bytes c.special_bits-bits.ensures c.if-bits-ne0.false)

pub returns : goal.returns
returns c = c.loop-i.invariant

pub returns-then-s-lt8 : goal.returns-then-s-lt8
returns-then-s-lt8 c = (le_refl _, none_passed _ _ _)
