-- `write_sections` writes the units of each section: those from the j-th on are left.
use Prim.Native.Nat.{ℕ, ◌+◌, ◌-◌}
use mathlib.Core.Path.{◌≡◌}
use lib.ListN.{length}
use Rattle.records.specs.Rows.{laid}
use Rattle.attributes.specs.Attributes.{sorted_held}
use Rattle.strands.specs.Writing.{section_units, strand_units}
use Rattle.start_records.proofs.UnitRows.{Going, units_from}
use Rattle.start_records.proofs.units.write_sections.Given as goal

abbrev pub invariant-loop-j : goal.invariant-loop-j
invariant-loop-j l =
    (length l.out ≡ length l.initial.out)
    × Going (laid l.initial.out l.initial.wrote.used) l.initial.wrote.unit (strand_units l.index l.tag (sorted_held l.attributes l.n) l.m l.mode)
    (laid l.out l.wrote.used) l.wrote.unit (units_from (λ (k : ℕ). k) (section_units l.index l.mode l.tag (sorted_held l.attributes l.n)) (l.m + 1) l.j)

abbrev pub decreases-loop-j : goal.decreases-loop-j
decreases-loop-j l = l.m + 1 - l.j
