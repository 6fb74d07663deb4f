-- `dispatch_scene` meets its contract: a step writes at most 4096 records, so their count fits.
use mathlib.Core.Path.{◌≡◌}
use Prim.Native.Nat.{◌*◌, ◌≤◌}
use lib.ListN.{length}
use Rattle.dispatch.proofs.dispatch_scene.Given as goal

abbrev pub invariant-loop-events : goal.invariant-loop-events
invariant-loop-events g l = (length l.out ≡ length l.initial.out) × (l.records ≤ 4096 * l.events)
