-- `reader::bindings::write_keys` meets its contract: the keys of the first bindings are laid down.
use Prim.Native.Nat.{◌≤◌}
use mathlib.Core.Path.{◌≡◌}
use lib.ListN.{length}
use Rattle.laws.specs.Over.{overwrite}
use Rattle.reader.specs.Known.{keys_in}
use Rattle.reader.proofs.bindings.write_keys.Given as goal

abbrev pub invariant-loop-k : goal.invariant-loop-k
invariant-loop-k l = (length l.known ≡ length l.initial.known) × (l.k ≤ l.n) × (l.known ≡ overwrite l.initial.known l.from (keys_in l.s l.bindings l.k))
