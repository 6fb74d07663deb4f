-- The rules that are left are the same with the words behind one that has another key; of this key it is the first.
use Rattle.std.proofs.Common.{rules, ◌∙◌, ap, length}
use Rattle.table.specs.declared.Rule.{Rule}
use Rattle.strands.specs.Rules.{rules_left}
use Rattle.strands.proofs.Ruled.{rule_none, rule_here, rule_other}
use Rattle.strands.proofs.rules.RulesIterator.next.Goals as goal

pub returns-then-key_of-self-clause-steps : goal.returns-then-key_of-self-clause-steps
unfolding rules_left
returns-then-key_of-self-clause-steps c =
    rule_here c.args.self.now c.loop-word.self.key c.loop-word.self.words.now c.loop-word.invariant _ _ c.in-Some.ensures.cases.0 _ c.key_of.ensures c.if-key_of-self.true _ c.rule_of.ensures

pub returns-then-key_of-self-clause-goes : goal.returns-then-key_of-self-clause-goes
unfolding rules_left
returns-then-key_of-self-clause-goes c =
    let e = ap (length {A = Rule}) (rule_here c.args.self.now c.loop-word.self.key c.loop-word.self.words.now c.loop-word.invariant _ _ c.in-Some.ensures.cases.0 _ c.key_of.ensures c.if-key_of-self.true _ c.rule_of.ensures) in
    search (rules, e)

pub loop-word-preserved : goal.loop-word-preserved
unfolding rules_left
loop-word-preserved c =
    rule_other c.args.self.now c.loop-word.self.key c.loop-word.self.words.now c.loop-word.invariant _ _ c.in-Some.ensures.cases.0 _ c.key_of.ensures c.if-key_of-self.false

pub returns-clause-steps : goal.returns-clause-steps
unfolding rules_left
returns-clause-steps c =
    let e = rule_none c.args.self.now c.loop-word.self.key c.loop-word.self.words.now c.loop-word.invariant c.in_default.ensures.cases in
    (e, c.loop-word.invariant ∙ e)
