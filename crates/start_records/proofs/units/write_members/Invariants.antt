-- `write_members` lays the rows of a section's attributes: those from the k-th on are left.
use mathlib.Core.Path.{◌≡◌}
use mathlib.Core.List.{map}
use lib.ListN.{length}
use lib.Dec.{eqb}
use Rattle.laws.specs.Gather.{gather}
use Rattle.records.specs.Rows.{laid, laid_rows}
use Rattle.attributes.specs.Attributes.{attributes_in, sections_in, sorted_held, sorted_in, Sorted}
use Rattle.strands.specs.Writing.{row_for, sorted_bodies, members}
use Rattle.start_records.proofs.UnitRows.{kept_rows}
use Rattle.start_records.proofs.units.write_members.Given as goal

abbrev pub invariant-loop-k : goal.invariant-loop-k
invariant-loop-k l =
    (length l.out ≡ length l.initial.out)
    × (laid_rows (laid l.out l.used) (kept_rows l.unit (sorted_in (attributes_in l.attributes) (sections_in l.attributes)) (λ (a : Sorted). eqb a.section l.j) l.n l.k)
    ≡ laid_rows (laid l.initial.out l.from) (map (row_for l.unit) (gather sorted_bodies (members (sorted_held l.attributes l.n) l.j))))
