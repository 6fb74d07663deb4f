-- `layout::storing::put_levels` meets its contract: the first k levels are stored.
use mathlib.Core.Path.{◌≡◌}
use Prim.Native.Nat.{ℕ, ◌≤◌}
use lib.ListN.{length}
use Rattle.laws.specs.Lists.{tabulate}
use Rattle.laws.specs.Gather.{gather}
use Rattle.laws.specs.Over.{overwrite}
use Rattle.strands.specs.Levels.{level_names, level_spaces, level_strands}
use Rattle.layout.specs.Parts.{level_words}
use Rattle.layout.proofs.storing.put_levels.Given as goal

abbrev pub invariant-loop-k : goal.invariant-loop-k
invariant-loop-k l = (l.k ≤ 64) × (length l.b ≡ length l.initial.b) × (l.b ≡ overwrite l.initial.b 1064 (gather (level_words (level_names l.levels) (level_spaces l.levels) (level_strands l.levels)) (tabulate (λ (i : ℕ). i) 0 l.k)))
