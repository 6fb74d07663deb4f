-- `table::uris::place_of` meets its contract: at each turn the answer is that of the places from p on.
use Prim.Native.Nat.{◌+◌, ◌-◌}
use mathlib.Core.Path.{◌≡◌}
use mathlib.Core.Bool.{cond}
use lib.ListN.{drop}
use lib.Dec.{ltb}
use Rattle.std.specs.Prelude.{None, slice_get}
use Rattle.table.specs.Places.{places_from, place_of}
use Rattle.table.proofs.uris.place_of.Given as goal

abbrev pub invariant-loop-i : goal.invariant-loop-i
invariant-loop-i l = cond (ltb l.i l.class) (slice_get (places_from (l.fn.header.namespaces - l.i) l.p (drop l.p l.table)) (l.class - (l.i + 1))) None ≡ place_of l.table l.fn.header l.class
