-- `strands::rules::units_for` meets its contract: what is counted and what the rules that are left open are all units.
use Rattle.std.proofs.Common.{arith, ap, length, ◌∙◌}
use native.Mathlib.Nat.{zero-add}
use Rattle.laws.specs.Gather.{total}
use Rattle.table.specs.declared.Rule.{Rule}
use Rattle.strands.specs.Rules.{rules_left}
use Rattle.strands.proofs.Ruled.{opens, rules_few, total_on, total_end}
use Rattle.strands.proofs.rules.units_for.Goals as goal

pub loop-rule-init : goal.loop-rule-init
loop-rule-init c =
    let e = ap rules_left c.into_iter-rule-iterator.ensures.into_iter_gives ∙ c.rules_in-rule-items.ensures in
    (omega (arith, ap (length {A = Rule}) e, rules_few c.args.index.now c.args.mode 1 c.args.class), zero-add _ ∙ ap (total opens) e)

pub loop-rule-preserved : goal.loop-rule-preserved
loop-rule-preserved c =
    let l = c.loop-rule in
    let e = c.in-Some.ensures.steps in
    (omega (arith, l.invariant.0, ap (length {A = Rule}) e, c.opened-n.ensures.1), total_on l.n c.in-Some.rule (rules_left l.rule-iterator) (rules_left c.next.new.self) e c.opened-n.result c.opened-n.ensures.0 ∙ l.invariant.1)

pub returns : goal.returns
returns c =
    let l = c.loop-rule in
    (total_end l.n (rules_left l.rule-iterator) c.in-None.ensures.steps.0 ∙ l.invariant.1, omega (arith, l.invariant.0))
