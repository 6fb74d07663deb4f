-- `entries::take_rules` meets its contract: what is laid and what the rules that are left make are all that the rules make.
use mathlib.Core.Path.{◌≡◌, sym, ◌∙◌, ap}
use mathlib.Core.List.{map}
use native.Mathlib.Omega.{arith}
use Rattle.strands.specs.Packed.{strand_in}
use Rattle.strands.specs.Rules.{rules_in, rules_left}
use Rattle.strands.specs.Entries.{made_by}
use Rattle.strands.proofs.Ruled.{left_small}
use Rattle.entries.proofs.Laying.{counted_few, laying_start}
use Rattle.entries.proofs.Taking.{fallback_next, rule_laid, rule_over, rules_laid, fallback_laid}
use Rattle.entries.proofs.take_rules.Goals as goal

pub loop-rule-init : goal.loop-rule-init
loop-rule-init c =
    let a = c.args in
    let made = made_by (strand_in a.w) in
    let rs = rules_in a.index.now c.mode_of-mode.result 0 a.class in
    let e : rules_left c.into_iter-rule-iterator.result ≡ rules_in a.index.now c.mode_of-mode.result 0 a.class = ap rules_left c.into_iter-rule-iterator.ensures.into_iter_gives ∙ c.rules_in-rule-items.ensures in
    (c.requires, rw e (laying_start (map made rs) a.words.now a.schemas.now a.n))

pub take_rule-requires : goal.take_rule-requires
take_rule-requires c = (c.loop-rule.invariant.0, left_small c.loop-rule.rule-iterator c.in-Some.rule (rules_left c.next.new.self) c.in-Some.ensures.steps)

pub returns-in_err-k : goal.returns-in_err-k
returns-in_err-k c =
    let a = c.args in
    let l = c.loop-rule in
    let m = c.mode_of-mode in
    let r = c.take_rule in
    let z =
    rule_over a.index.now a.class a.w m.result m.ensures.0 a.words.now a.schemas.now a.n l.words l.schemas l.k (rules_left l.rule-iterator) l.invariant.1 c.in-Some.rule (rules_left c.next.new.self) c.in-Some.ensures.steps r.new.words r.new.schemas
    (record { number = sym c.in_err-k.was ∙ r.ensures.0; strands = r.ensures.1; marks = r.ensures.2 }) in
    (c.from_residual.ensures ∙ z.number, z.strands, z.marks)

pub loop-rule-preserved : goal.loop-rule-preserved
loop-rule-preserved c =
    let a = c.args in
    let l = c.loop-rule in
    let m = c.mode_of-mode in
    let r = c.take_rule in
    let e = sym c.in_ok-k.was ∙ r.ensures.0 in (
      counted_few _ _ e,
      rule_laid a.index.now a.class a.w m.result m.ensures.0 a.words.now a.schemas.now a.n l.words l.schemas l.k (rules_left l.rule-iterator) l.invariant.1 c.in-Some.rule (rules_left c.next.new.self) c.in-Some.ensures.steps r.new.words r.new.schemas
          c.in_ok-k.k (omega arith) (omega arith) (record { number = e; strands = r.ensures.1; marks = r.ensures.2 }),
    )

pub take_rule-requires-then-k-n : goal.take_rule-requires-then-k-n
take_rule-requires-then-k-n c = (c.loop-rule.invariant.0, fallback_next c.fallback_of.result c.mode_of-mode.result c.fallback_of.ensures c.mode_of-mode.ensures.1)

pub returns-then-k-n : goal.returns-then-k-n
returns-then-k-n c =
    let a = c.args in
    let l = c.loop-rule in
    let m = c.mode_of-mode in
    let r = c.take_rule-then-k-n in
    let z =
    fallback_laid a.index.now a.class a.w m.result m.ensures.0 a.words.now a.schemas.now a.n l.words l.schemas l.k (rules_left l.rule-iterator) l.invariant.1 c.in-None.ensures.steps.0 c.if-k-n.true c.fallback_of.result c.fallback_of.ensures r.new.words r.new.schemas r.result
    (record { number = r.ensures.0; strands = r.ensures.1; marks = r.ensures.2 }) in
    (z.number, z.strands, z.marks)

pub returns : goal.returns
returns c =
    let a = c.args in
    let l = c.loop-rule in
    let m = c.mode_of-mode in
    let z = rules_laid a.index.now a.class a.w m.result m.ensures.0 a.words.now a.schemas.now a.n l.words l.schemas l.k (rules_left l.rule-iterator) l.invariant.1 c.in-None.ensures.steps.0 l.invariant.0 c.if-k-n.false in
    (z.number, z.strands, z.marks)
