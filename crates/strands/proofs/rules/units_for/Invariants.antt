-- `strands::rules::units_for` meets its contract: what is counted and what the rules that are left open are all units.
use Rattle.std.proofs.Common.{◌≡◌, ◌+◌, ◌≤◌, length}
use Rattle.laws.specs.Gather.{total}
use Rattle.strands.specs.Rules.{units_for, rules_left}
use Rattle.strands.proofs.Ruled.{opens}
use Rattle.strands.proofs.rules.units_for.Given as goal

abbrev pub invariant-loop-rule : goal.invariant-loop-rule
invariant-loop-rule l = (l.n + length (rules_left l.rule-iterator) ≤ 128) × (l.n + total opens (rules_left l.rule-iterator) ≡ units_for l.index l.mode l.class)
