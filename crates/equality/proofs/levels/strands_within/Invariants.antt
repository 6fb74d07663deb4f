-- `levels::strands_within` meets its contract: at each turn the answer is that of the levels from the k-th on.
use Prim.Native.Nat.{ℕ, ◌+◌, ◌-◌, ◌*◌}
use mathlib.Core.Path.{◌≡◌}
use lib.ListN.{get_or}
use lib.Dec.{leb}
use Rattle.laws.specs.Lists.{all, tabulate}
use Rattle.strands.specs.Levels.{level_spaces}
use Rattle.equality.proofs.levels.strands_within.Given as goal

abbrev pub invariant-loop-k : goal.invariant-loop-k
invariant-loop-k l =
    all (λ (i : ℕ). leb (get_or (level_spaces l.levels) (4 * i + 3) 0) 16) (tabulate (λ (i : ℕ). i) l.k (l.depth - l.k))
    ≡ all (λ (i : ℕ). leb (get_or (level_spaces l.levels) (4 * i + 3) 0) 16) (tabulate (λ (i : ℕ). i) 0 l.depth)
