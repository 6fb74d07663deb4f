-- `strands::counts::elements_count` meets its contract: the records along the strands so far.
use Prim.Native.Nat.{ℕ, ◌*◌, ◌≤◌}
use mathlib.Core.Path.{◌≡◌}
use mathlib.Core.List.{List}
use Rattle.laws.specs.Gather.{total}
use Rattle.strands.specs.Entries.{entries_in}
use Rattle.attributes.specs.Attributes.{sorted_held}
use Rattle.strands.specs.Writing.{element_count}
use Rattle.strands.proofs.counts.elements_count.Given as goal

abbrev pub invariant-loop-w : goal.invariant-loop-w
invariant-loop-w l =
    (l.w-index ≤ l.count) × (l.r ≤ 34 * l.w-index) × ((schemas : List ℕ) → l.r ≡ total (element_count l.index (sorted_held l.attributes l.n)) (entries_in l.words schemas l.w-index))
