-- `lexer::names::part_end` meets its contract: at each turn the answer is the machine's from `i` on, where a character begins.
use mathlib.Core.Path.{◌≡◌, refl, ◌∙◌, ap}
use native.Mathlib.Omega.{arith}
use Rattle.lexer.specs.Names.{part_from}
use Rattle.laws.specs.Tests.{untold, untold'}
use Rattle.lexer.proofs.Parts.{part_none, part_here, part_out, part_first, part_stop, part_on}
use mathlib.Core.Bool.{not}
use Rattle.lexer.proofs.names.part_end.Goals as goal

pub returns-then-len-at : goal.returns-then-len-at
returns-then-len-at c = search part_none

pub part_rest-requires : goal.part_rest-requires
part_rest-requires c = (omega arith, omega arith)

pub returns-then-not-is_start : goal.returns-then-not-is_start
returns-then-not-is_start c = c.apart.ensures ∙ c.part_rest.ensures ∙ part_here _ _

pub loop-i-init : goal.loop-i-init
loop-i-init c =
    let r = c.room_end-end.ensures in
    let a = c.args in
    (refl, omega arith, omega (arith, r.0), r.1, r.2, part_first a.s.now a.at c.if-len-at.false (untold' _ _ c.is_start.ensures (ap not c.if-not-is_start.false)))

pub returns-then-s-i-lt128 : goal.returns-then-s-i-lt128
returns-then-s-i-lt128 c =
    let a = c.args in
    let l = c.loop-i in
    part_stop a.s.now a.at l.i l.invariant.1 l.invariant.5 (omega arith) c.if-s-i-lt128.true (untold _ _ c.is_name.ensures (ap not c.if-not-is_name.true))

pub part_rest-requires-then-not-is_name : goal.part_rest-requires-then-not-is_name
part_rest-requires-then-not-is_name c = (omega arith, omega arith)

pub returns-then-not-is_name : goal.returns-then-not-is_name
returns-then-not-is_name c = c.apart-then-not-is_name.ensures ∙ c.part_rest-then-not-is_name.ensures ∙ c.loop-i.invariant.5

pub loop-i-preserved : goal.loop-i-preserved
loop-i-preserved c =
    let a = c.args in
    let l = c.loop-i in
    (l.invariant.0, omega arith, omega arith, l.invariant.3, l.invariant.4, part_on a.s.now a.at l.i l.invariant.1 l.invariant.5 (omega arith) (omega arith) (untold' _ _ c.is_name.ensures (ap not c.if-not-is_name.false)))

pub returns-then-len-end : goal.returns-then-len-end
returns-then-len-end c = part_out _ _ _ c.loop-i.invariant.5 (omega arith)

pub part_rest-requires-2 : goal.part_rest-requires-2
part_rest-requires-2 c = (omega arith, omega arith)

pub returns : goal.returns
returns c =
    let e : c.room_end-end.result ≡ c.loop-i.i = omega arith in
    c.apart-2.ensures ∙ c.part_rest-2.ensures ∙ ap (part_from c.args.s.now c.args.at) e ∙ c.loop-i.invariant.5
