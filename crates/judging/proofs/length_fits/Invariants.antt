-- `judging::length_fits` meets its contract: at each turn the answer is that of what stands from p on.
use Prim.Native.Nat.{◌-◌, ◌≤◌}
use mathlib.Core.Path.{◌≡◌}
use lib.ListN.{length, drop}
use Rattle.table.specs.Judge.{uris_fill, length_fits}
use Rattle.judging.proofs.length_fits.Given as goal

abbrev pub invariant-loop-i : goal.invariant-loop-i
invariant-loop-i l = (l.p ≤ length l.table) × (uris_fill (l.fn.header.namespaces - l._i) (drop l.p l.table) ≡ length_fits l.table l.fn.header)
