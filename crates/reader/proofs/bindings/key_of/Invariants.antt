-- `reader::bindings::key_of` meets its contract: the key so far and the bytes that are left make the key of them all.
use Prim.Native.Nat.{◌^◌, ◌≤◌, ◌<◌}
use mathlib.Core.Path.{◌≡◌}
use lib.ListN.{length, drop}
use Rattle.reader.specs.Known.{key_from}
use Rattle.reader.proofs.bindings.key_of.Given as goal

abbrev pub invariant-loop-b : goal.invariant-loop-b
invariant-loop-b l = (l.b-index ≤ length l.prefix) × (length l.prefix ≤ 7) × (l.key < 256 ^ l.b-index) × (key_from l.key (drop l.b-index l.prefix) ≡ key_from 0 l.prefix)
