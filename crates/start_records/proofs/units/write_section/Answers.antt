-- `write_section` writes a unit for each rule that validates: those of the rules that are still to come are left.
use Rattle.std.proofs.Common.{refl, ap, ◌∙◌, arith}
use Rattle.records.specs.Rows.{laid}
use Rattle.attributes.specs.Attributes.{sorted_held}
use Rattle.strands.specs.Rules.{rules_left}
use Rattle.strands.specs.Writing.{section_units}
use Rattle.start_records.proofs.UnitRows.{by_rules, going_holds, rules_all, rule_fits, rule_on, rule_done}
use Rattle.start_records.proofs.units.write_section.Goals as goal

pub loop-rule-init : goal.loop-rule-init
loop-rule-init c =
    let a = c.args in
    let l = sorted_held a.attributes.now a.n in
    let e = ap rules_left c.into_iter-rule-iterator.ensures.into_iter_gives ∙ c.rules_in-rule-items.ensures in
    (refl, going_holds (laid a.out.now a.from.used) a.from.unit (section_units a.index.now a.mode a.tag l a.j) _ (ap (by_rules a.tag l a.j) e ∙ rules_all a.tag l a.j a.index.now a.mode c.section_class.result c.section_class.ensures))

pub write_by-wrote-requires : goal.write_by-wrote-requires
write_by-wrote-requires c =
    let a = c.args in
    let i = c.loop-rule.invariant in
    (c.requires.0, c.requires.1, rule_fits a.tag (sorted_held a.attributes.now a.n) a.j (rules_left c.loop-rule.rule-iterator) _ _ _ _ _ i.1 c.in-Some.rule (rules_left c.next.new.self) c.in-Some.ensures.steps 65536 c.requires.2)

pub loop-rule-preserved : goal.loop-rule-preserved
loop-rule-preserved c =
    let a = c.args in
    let i = c.loop-rule.invariant in
    let w = c.write_by-wrote in (
      omega (arith, i.0, w.auto.out),
      rule_on a.tag (sorted_held a.attributes.now a.n) a.j (rules_left c.loop-rule.rule-iterator) _ _ _ _ _ i.1 c.in-Some.rule (rules_left c.next.new.self) c.in-Some.ensures.steps _ _ w.ensures.0 w.ensures.1,
    )

pub returns : goal.returns
returns c =
    let a = c.args in
    rule_done a.tag (sorted_held a.attributes.now a.n) a.j (rules_left c.loop-rule.rule-iterator) _ _ _ _ _ c.loop-rule.invariant.1 c.in-None.ensures.steps.0
