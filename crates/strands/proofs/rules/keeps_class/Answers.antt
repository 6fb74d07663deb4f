-- `strands::rules::keeps_class` meets its contract: by the next rule, or where there is none.
use Rattle.std.proofs.Common.{◌∙◌}
use Rattle.strands.specs.Rules.{rules_left}
use Rattle.strands.proofs.Ruled.{kept_here, kept_on, kept_end}
use Rattle.strands.proofs.rules.keeps_class.Goals as goal

pub returns-then-is_attach : goal.returns-then-is_attach
returns-then-is_attach c =
    let l = c.loop-rule in
    kept_here c.args.mode l.none c.in-Some.rule (rules_left l.rule-iterator) (rules_left c.next.new.self) c.in-Some.ensures.steps c.is_attach.result c.is_attach.ensures c.if-is_attach.true ∙ l.invariant

pub loop-rule-preserved : goal.loop-rule-preserved
loop-rule-preserved c =
    let l = c.loop-rule in
    kept_on c.args.mode l.none c.in-Some.rule (rules_left l.rule-iterator) (rules_left c.next.new.self) c.in-Some.ensures.steps c.is_attach.result c.is_attach.ensures c.if-is_attach.false ∙ l.invariant

pub returns : goal.returns
returns c =
    let l = c.loop-rule in
    kept_end c.args.mode l.none (rules_left l.rule-iterator) c.in-None.ensures.steps.0 ∙ l.invariant
