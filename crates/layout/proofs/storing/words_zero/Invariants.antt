-- `layout::storing::words_zero` meets its contract: the answer so far is that of the first j numbers.
use mathlib.Core.Path.{◌≡◌}
use Prim.Native.Nat.{ℕ, ◌+◌, ◌*◌, ◌≤◌}
use lib.Dec.{eqb}
use Rattle.layout.specs.Layout.{word4}
use Rattle.layout.proofs.Tested.{asked}
use Rattle.layout.proofs.storing.words_zero.Given as goal

abbrev pub invariant-loop-j : goal.invariant-loop-j
invariant-loop-j l = (l.j ≤ l.n) × (l.all ≡ asked (λ (i : ℕ). eqb (word4 l.b (l.at + l.step * i)) 0) 0 l.j)
