-- `copy_kept` copies the rows of the attributes that are kept: those from the k-th on are left.
use Prim.Native.Nat.{◌+◌, ◌*◌, ◌≤◌}
use mathlib.Core.Path.{◌≡◌}
use lib.ListN.{length}
use Rattle.attributes.specs.Attributes.{attributes_in, sections_in}
use Rattle.start_records.proofs.KeptCopies.{Copying}
use Rattle.start_records.proofs.elements.copy_kept.Given as goal

abbrev pub invariant-loop-k : goal.invariant-loop-k
invariant-loop-k l =
    (l.k ≤ l.n) × (length l.out ≡ length l.initial.out) × (l.used ≤ l.from + 32 * l.k) × Copying l.index l.mode (attributes_in l.attributes) (sections_in l.attributes) l.n l.rows l.unit l.initial.out l.from l.out l.used l.k
