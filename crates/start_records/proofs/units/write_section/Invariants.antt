-- `write_section` writes a unit for each rule that validates: those of the rules that are still to come are left.
use Rattle.std.proofs.Common.{◌≡◌, length}
use Rattle.records.specs.Rows.{laid}
use Rattle.attributes.specs.Attributes.{sorted_held}
use Rattle.strands.specs.Rules.{rules_left}
use Rattle.strands.specs.Writing.{section_units}
use Rattle.start_records.proofs.UnitRows.{Going, by_rules}
use Rattle.start_records.proofs.units.write_section.Given as goal

abbrev pub invariant-loop-rule : goal.invariant-loop-rule
invariant-loop-rule l =
    (length l.out ≡ length l.initial.out)
    × Going (laid l.initial.out l.initial.wrote.used) l.initial.wrote.unit (section_units l.index l.mode l.tag (sorted_held l.attributes l.n) l.j)
    (laid l.out l.wrote.used) l.wrote.unit (by_rules l.tag (sorted_held l.attributes l.n) l.j (rules_left l.rule-iterator))
