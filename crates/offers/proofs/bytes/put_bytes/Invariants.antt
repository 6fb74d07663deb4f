-- `bytes::put_bytes` meets its contract: the first i bytes are laid.
use mathlib.Core.Path.{◌≡◌}
use Prim.Native.Nat.{◌≤◌}
use lib.ListN.{length, take}
use Rattle.laws.specs.Over.{overwrite}
use Rattle.offers.proofs.bytes.put_bytes.Given as goal

abbrev pub invariant-loop-i : goal.invariant-loop-i
invariant-loop-i l = (l.i ≤ 7208) × (length l.b ≡ length l.initial.b) × (l.b ≡ overwrite l.initial.b l.at (take l.i l.session))
