-- `layout::storing::words_pack` meets its contract: the answer so far is that of the first j numbers.
use mathlib.Core.Path.{◌≡◌}
use Prim.Native.Nat.{ℕ, ◌+◌, ◌*◌, ◌≤◌}
use Rattle.layout.specs.Layout.{word4, packs}
use Rattle.layout.proofs.Tested.{asked}
use Rattle.layout.proofs.storing.words_pack.Given as goal

abbrev pub invariant-loop-j : goal.invariant-loop-j
invariant-loop-j l = (l.j ≤ l.n) × (l.all ≡ asked (λ (i : ℕ). packs (word4 l.b (l.at + 4 * i))) 0 l.j)
