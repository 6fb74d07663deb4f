-- `attributes::held::hold_plain` meets its contract: after each turn one more attribute is held, with section 0.
use mathlib.Core.Path.{◌∙◌}
use native.Mathlib.Omega.{arith}
use lib.ListN.{length-drop}
use lib.Seq.{length-take-le}
use Rattle.attributes.specs.Attributes.{attributes_in, sections_in}
use Rattle.attributes.proofs.Known.{most_is}
use Rattle.attributes.proofs.Plain.{begin_plain, turn_held, ended_plain}
use Rattle.attributes.proofs.held.hold_plain.Goals as goal

pub loop-i-init : goal.loop-i-init
loop-i-init c =
    let a = c.args in
    (omega arith, begin_plain a.attrs.now a.count c.min-most.result (most_is a.count _ c.min-most.ensures) (attributes_in a.attributes.now) (sections_in a.attributes.now) (length-take-le 128 a.attributes.now (omega arith)) (length-drop 128 a.attributes.now ∙ omega arith))

pub loop-i-preserved : goal.loop-i-preserved
loop-i-preserved c =
    let a = c.args in
    let l = c.loop-i in
    let m = c.min-most in
    let r = c.attr_in in
    turn_held a.attrs.now a.count m.result (most_is a.count _ m.ensures) _ _ l.attributes l.i l.invariant.0 l.invariant.1 c.loop-i-test.true r.result r.ensures _ c.without_place.ensures _ c.put_given.ensures

pub returns : goal.returns
returns c =
    let a = c.args in
    let l = c.loop-i in
    let m = c.min-most in
    ended_plain a.attrs.now a.count m.result (most_is a.count _ m.ensures) _ _ _ _ l.i l.invariant.1 c.loop-i-test.false
