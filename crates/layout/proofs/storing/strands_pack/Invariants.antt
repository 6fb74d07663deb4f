-- `layout::storing::strands_pack` meets its contract: the answer is that of the levels from the k-th on.
use mathlib.Core.Path.{◌≡◌}
use Prim.Native.Nat.{ℕ, ◌-◌, ◌*◌, ◌≤◌}
use Rattle.layout.specs.Layout.{word4, packs, strand_at}
use Rattle.layout.proofs.Tested.{asked}
use Rattle.layout.proofs.storing.strands_pack.Given as goal

abbrev pub invariant-loop-k : goal.invariant-loop-k
invariant-loop-k l = (l.k ≤ 64) × (asked (λ (i : ℕ). packs (word4 l.b (strand_at i))) (16 * l.k) (1024 - 16 * l.k) ≡ asked (λ (i : ℕ). packs (word4 l.b (strand_at i))) 0 1024)
