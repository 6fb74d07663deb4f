-- `entries::number_units` meets its contract: the strands so far have their units' numbers, those behind are as they were.
use mathlib.Core.Path.{◌≡◌}
use Prim.Native.Nat.{◌≤◌}
use lib.ListN.{length}
use Rattle.entries.proofs.UnitNumbers.{Numbering}
use Rattle.entries.proofs.number_units.Given as goal

abbrev pub invariant-loop-w : goal.invariant-loop-w
invariant-loop-w l = (l.u ≤ 65536) × (length l.w-items ≡ l.n) × Numbering l.initial.w-items l.n l.unit l.w-items l.u l.w-index
