-- `attributes::sections::section_of` meets its contract: at each turn the answer is that of the attributes that are left.
use Rattle.std.proofs.Common.{Some}
use mathlib.Core.Path.{◌≡◌, ap, ◌∙◌}
use Prim.Native.Nat.{ℕ, ◌+◌, ◌-◌}
use native.Mathlib.Omega.{arith}
use Rattle.laws.specs.Lists.{tabulate}
use Rattle.reader.specs.Stored.{stored_space}
use Rattle.attributes.specs.Attributes.{namespace_of, given_in, attributes_in, sections_in, number_among, numbered_in}
use Rattle.attributes.proofs.Numbering.{stays_nothing, stays_same, stays_not, turn_found, turn_on, turn_done, numbered_apart}
use Rattle.attributes.proofs.sections.section_of.Goals as goal
use Rattle.attributes.proofs.sections.section_of.Goals.{then-is_nothing-via-then-is_nothing, then-is_nothing-via-else-is_nothing+then-same_space}

pub returns-then-is_nothing : goal.returns-then-is_nothing
returns-then-is_nothing c =
    let a = c.args in
    let n = c.is_nothing.ensures in
    let code = (given_in (attributes_in a.attributes.now) a.i).code in
    elim c.then-is_nothing.branch [
      | then-is_nothing-via-then-is_nothing w ↦ stays_nothing a.s.now a.own.now a.outer.now (stored_space a.own.now a.outer.now a.element) code c.found_at-f.result c.found_at-f.ensures _ n w.if-is_nothing.true _ _
      | then-is_nothing-via-else-is_nothing+then-same_space w ↦
          stays_same a.s.now a.own.now a.outer.now (stored_space a.own.now a.outer.now a.element) code c.found_at-f.result c.found_at-f.ensures _ n w.if-is_nothing.false _ w.same_space.ensures w.if-same_space.true _ _
    ]

pub loop-k-init : goal.loop-k-init
loop-k-init c =
    let a = c.args in
    let z : a.i - 0 ≡ a.i = omega arith in
    ap (λ (k : ℕ). number_among a.s.now (namespace_of a.own.now a.outer.now (given_in (attributes_in a.attributes.now) a.i).code) (a.m + 1) (tabulate (numbered_in a.own.now a.outer.now (attributes_in a.attributes.now) (sections_in a.attributes.now)) 0 k)) z

pub returns-then-in_section : goal.returns-then-in_section
returns-then-in_section c =
    let a = c.args in
    let l = c.loop-k in
    let f = c.found_at-f in
    numbered_apart _ _ _ _ (stays_not a.s.now a.own.now a.outer.now (stored_space a.own.now a.outer.now a.element) (given_in (attributes_in a.attributes.now) a.i).code f.result f.ensures _ c.is_nothing.ensures c.if-is_nothing.false _ c.same_space.ensures c.if-same_space.false)
    (ap Some (c.section_at.ensures ∙ turn_found a.s.now _ _ _ a.i l.k _ l.invariant c.loop-k-test.true _ (ap (stored_space a.own.now a.outer.now) f.ensures) _ c.in_section.ensures c.if-in_section.true))

pub loop-k-preserved : goal.loop-k-preserved
loop-k-preserved c =
    let a = c.args in
    let l = c.loop-k in
    turn_on a.s.now _ _ _ a.i l.k _ l.invariant c.loop-k-test.true _ (ap (stored_space a.own.now a.outer.now) c.found_at-f.ensures) _ c.in_section.ensures c.if-in_section.false

pub returns : goal.returns
returns c =
    let a = c.args in
    let l = c.loop-k in
    let f = c.found_at-f in
    numbered_apart _ _ _ _ (stays_not a.s.now a.own.now a.outer.now (stored_space a.own.now a.outer.now a.element) (given_in (attributes_in a.attributes.now) a.i).code f.result f.ensures _ c.is_nothing.ensures c.if-is_nothing.false _ c.same_space.ensures c.if-same_space.false)
    (ap Some (turn_done a.s.now _ _ _ a.i l.k _ l.invariant c.loop-k-test.false))
