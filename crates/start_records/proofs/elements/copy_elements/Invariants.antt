-- `copy_elements` lays the rows of the element along each strand: those from the k-th on are left.
use Prim.Native.Nat.{◌+◌, ◌*◌, ◌≤◌}
use mathlib.Core.Path.{◌≡◌}
use mathlib.Core.List.{map}
use lib.ListN.{length}
use Rattle.laws.specs.Gather.{gather}
use Rattle.records.specs.Rows.{laid, laid_rows}
use Rattle.strands.specs.Entries.{entries_in}
use Rattle.attributes.specs.Attributes.{sorted_held}
use Rattle.strands.specs.Writing.{row_of, begun_body, element_records}
use Rattle.start_records.proofs.ElementRows.{element_rows}
use Rattle.start_records.proofs.elements.copy_elements.Given as goal

abbrev pub invariant-loop-k : goal.invariant-loop-k
invariant-loop-k l =
    let records = element_records l.index l.begun.tag (begun_body l.begun) (sorted_held l.attributes l.n) in
    (l.k ≤ l.count) × (length l.out ≡ length l.initial.out) × (l.used ≤ l.from + l.k * (32 * (l.n + 1)))
    × (laid_rows (laid l.out l.used) (element_rows records l.words l.schemas l.count l.k) ≡ laid_rows (laid l.initial.out l.from) (map row_of (gather records (entries_in l.words l.schemas l.count))))
