-- `table::uris::listed_from` meets its contract: at each turn the answer is that of the URIs from p on.
use Prim.Native.Nat.{◌+◌, ◌-◌}
use mathlib.Core.Path.{◌≡◌}
use lib.ListN.{drop}
use Rattle.table.specs.Table.{uris_from, listed_from}
use Rattle.table.proofs.uris.listed_from.Given as goal

abbrev pub invariant-loop-i : goal.invariant-loop-i
invariant-loop-i l = listed_from (uris_from (l.fn.n - l.i) (drop l.p l.table)) (l.i + 1) l.uri ≡ listed_from (uris_from l.fn.n (drop l.fn.from l.table)) 1 l.uri
