-- `lay_units` lays what each unit adds: of the first k strands after k turns.
use Prim.Native.Nat.{◌≤◌}
use mathlib.Core.Path.{◌≡◌}
use lib.ListN.{length}
use Rattle.start_records.proofs.Copies.{Units}
use Rattle.start_records.proofs.elements.lay_units.Given as goal

abbrev pub invariant-loop-k : goal.invariant-loop-k
invariant-loop-k l = (l.k ≤ l.count) × (length l.rows ≡ 82) × Units l.words l.initial.rows l.rows l.k
