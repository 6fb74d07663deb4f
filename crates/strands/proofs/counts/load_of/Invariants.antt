-- `strands::counts::load_of` meets its contract: the units and records of the sections so far.
use Prim.Native.Nat.{ℕ, ◌+◌, ◌-◌, ◌*◌, ◌≤◌}
use mathlib.Core.Path.{◌≡◌}
use Rattle.laws.specs.Lists.{tabulate}
use Rattle.laws.specs.Gather.{total}
use Rattle.strands.specs.Rules.{units_for}
use Rattle.attributes.specs.Attributes.{sorted_held}
use Rattle.strands.specs.Writing.{members, head_class, section_count}
use Rattle.strands.proofs.counts.load_of.Given as goal

abbrev pub invariant-loop-j : goal.invariant-loop-j
invariant-loop-j l =
    (1 ≤ l.j) × (l.j ≤ l.m + 1) × (l.units ≤ 128 * (l.j - 1)) × (l.records ≤ 4608 * (l.j - 1))
    × (l.units ≡ total (λ (i : ℕ). units_for l.index l.mode (head_class (members (sorted_held l.attributes l.n) i))) (tabulate (λ (i : ℕ). i) 1 (l.j - 1)))
    × (l.records ≡ total (section_count l.index l.mode (sorted_held l.attributes l.n)) (tabulate (λ (i : ℕ). i) 1 (l.j - 1)))

abbrev pub decreases-loop-j : goal.decreases-loop-j
decreases-loop-j l = l.m + 1 - l.j
