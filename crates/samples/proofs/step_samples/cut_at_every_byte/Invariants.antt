-- `cut_at_every_byte` meets its contract: a step is one event at most and writes at most 4096 records, so both counts fit.
use mathlib.Core.Path.{◌≡◌}
use Prim.Native.Nat.{◌*◌, ◌≤◌}
use lib.ListN.{length}
use Rattle.samples.proofs.step_samples.cut_at_every_byte.Given as goal

abbrev pub invariant-loop : goal.invariant-loop
invariant-loop g l = (length l.out ≡ length l.initial.out) × (l.cut ≤ length l.scene) × (l.events ≤ l.counter) × (l.records ≤ 4096 * l.counter)
