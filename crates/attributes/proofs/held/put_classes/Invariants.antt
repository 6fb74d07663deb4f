-- `attributes::held::put_classes` meets its contract: after each turn one more class is laid.
use mathlib.Core.Path.{◌≡◌}
use Prim.Native.Nat.{◌+◌}
use Rattle.laws.specs.Over.{overwrite}
use Rattle.table.specs.Table.{table_of}
use Rattle.attributes.specs.Known.{classes_in}
use Rattle.attributes.proofs.held.put_classes.Given as goal

abbrev pub invariant-loop-k : goal.invariant-loop-k
invariant-loop-k l = l.known ≡ overwrite l.initial.known (80 + l.from) (classes_in (table_of l.table l.header) l.s l.bindings l.k)
