-- `strands::rules::keeps_class` meets its contract: the answer is that of the rules that are left, and of whether there were some before them.
use Rattle.std.proofs.Common.{◌≡◌}
use Rattle.strands.specs.Rules.{keeps_class, rules_left}
use Rattle.strands.proofs.Ruled.{kept_by}
use Rattle.strands.proofs.rules.keeps_class.Given as goal

abbrev pub invariant-loop-rule : goal.invariant-loop-rule
invariant-loop-rule l = kept_by l.mode l.none (rules_left l.rule-iterator) ≡ keeps_class l.index l.mode l.class
