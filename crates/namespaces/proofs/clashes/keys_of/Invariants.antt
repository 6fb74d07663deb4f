-- `namespaces::clashes::keys_of` meets its contract: the keys that are stored are the last bytes of names that have one.
use Prim.Native.Nat.{ℕ, ◌<◌}
use mathlib.Core.Path.{◌≡◌}
use lib.ListN.{length, get_or}
use Rattle.lexer.specs.Attrs.{attr_in}
use Rattle.reader.specs.Keys.{EndsWith}
use Rattle.namespaces.proofs.clashes.keys_of.Given as goal

abbrev pub invariant-loop-i : goal.invariant-loop-i
invariant-loop-i l = (length l.keys ≡ 16) × ((k : ℕ) → k < l.i → EndsWith l.s (attr_in l.attrs k).name (get_or l.keys k 0))
