-- `entries::take_rules` meets its contract: what is laid and what the rules that are left make are all that the rules make.
use mathlib.Core.List.{map}
use Prim.Native.Nat.{◌≤◌}
use Rattle.strands.specs.Packed.{strand_in}
use Rattle.strands.specs.Rules.{rules_in, rules_left}
use Rattle.strands.specs.Entries.{made_by}
use Rattle.entries.proofs.Laying.{Laying}
use Rattle.entries.proofs.take_rules.Given as goal

abbrev pub invariant-loop-rule : goal.invariant-loop-rule
invariant-loop-rule l = (l.k ≤ 16) × Laying (map (made_by (strand_in l.w)) (rules_in l.index l.mode 0 l.class)) l.initial.words l.initial.schemas l.n l.words l.schemas l.k (map (made_by (strand_in l.w)) (rules_left l.rule-iterator))
