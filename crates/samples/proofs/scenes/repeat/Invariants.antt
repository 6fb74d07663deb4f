-- `repeat` meets its contract: the place stays in the buffer.
use mathlib.Core.Path.{◌≡◌}
use Prim.Native.Nat.{◌≤◌}
use lib.ListN.{length}
use Rattle.samples.proofs.scenes.repeat.Given as goal

abbrev pub invariant-loop : goal.invariant-loop
invariant-loop l = (l.to ≤ length l.initial.scene) × (length l.scene ≡ length l.initial.scene)
