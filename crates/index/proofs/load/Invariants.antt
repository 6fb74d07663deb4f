-- `index::load` meets its contract: at each turn the index is that of the rules from the i-th on put into it.
use Prim.Native.Nat.{◌-◌}
use mathlib.Core.Path.{◌≡◌}
use Rattle.laws.specs.Lists.{tabulate}
use Rattle.table.specs.Table.{word_at}
use Rattle.table.specs.Index.{index_from, index_of}
use Rattle.index.proofs.load.Given as goal

abbrev pub invariant-loop-i : goal.invariant-loop-i
invariant-loop-i l = index_from (tabulate (word_at l.table) l.i (l.i-end - l.i)) l.i l.index ≡ index_of l.table l.fn.header
