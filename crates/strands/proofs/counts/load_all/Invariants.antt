-- `strands::counts::load_all` meets its contract: the units and records of the strands so far; none where there are no sections.
use Prim.Native.Nat.{ℕ, ◌*◌, ◌≤◌}
use mathlib.Core.Path.{◌≡◌}
use lib.ListN.{get_or}
use Rattle.laws.specs.Lists.{tabulate}
use Rattle.laws.specs.Gather.{total}
use Rattle.strands.specs.Packed.{strand_in}
use Rattle.strands.specs.Rules.{units_for}
use Rattle.attributes.specs.Attributes.{sorted_held}
use Rattle.strands.specs.Writing.{members, head_class, section_count}
use Rattle.strands.proofs.counts.load_all.Given as goal

abbrev pub invariant-loop-w : goal.invariant-loop-w
invariant-loop-w l =
    (l.w-index ≤ l.count) × (l.load.units ≤ 2048 * l.w-index) × (l.load.records ≤ 73728 * l.w-index)
    × (l.load.units ≡ total (λ (w : ℕ). total (λ (j : ℕ). units_for l.index (strand_in w).mode (head_class (members (sorted_held l.attributes l.n) j))) (tabulate (λ (j : ℕ). j) 1 l.m)) (tabulate (λ (i : ℕ). get_or l.words i 0) 0 l.w-index))
    × (l.load.records ≡ total (λ (w : ℕ). total (section_count l.index (strand_in w).mode (sorted_held l.attributes l.n)) (tabulate (λ (j : ℕ). j) 1 l.m)) (tabulate (λ (i : ℕ). get_or l.words i 0) 0 l.w-index))
