-- The rules that are left are the same with the words behind one that has another key.
use Rattle.std.proofs.Common.{◌≡◌, length}
use Rattle.strands.specs.Rules.{rules_left}
use Rattle.strands.proofs.rules.RulesIterator.next.Given as goal

abbrev pub invariant-loop-word : goal.invariant-loop-word
invariant-loop-word l = rules_left l.self ≡ rules_left l.initial.self

abbrev pub decreases-loop-word : goal.decreases-loop-word
decreases-loop-word l = length l.self.words.now
