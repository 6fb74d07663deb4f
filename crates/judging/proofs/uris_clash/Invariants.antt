-- `judging::uris_clash` meets its contract: at each turn the answer is that of the URIs from p on.
use Prim.Native.Nat.{◌-◌}
use mathlib.Core.Path.{◌≡◌}
use lib.ListN.{drop}
use Rattle.table.specs.Table.{uris_from, uris_of}
use Rattle.table.specs.Judge.{uris_clash}
use Rattle.judging.proofs.uris_clash.Given as goal

abbrev pub invariant-loop-i : goal.invariant-loop-i
invariant-loop-i l = uris_clash (uris_from (l.header.namespaces - l.i) (drop l.p l.table)) ≡ uris_clash (uris_of l.table l.header)
