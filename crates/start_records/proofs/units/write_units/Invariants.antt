-- `write_units` writes the units of each strand: those from the k-th on are left.
use mathlib.Core.Path.{◌≡◌}
use lib.ListN.{length}
use Rattle.laws.specs.Lists.{tabulate}
use Rattle.laws.specs.Gather.{gather}
use Rattle.records.specs.Rows.{laid}
use Rattle.attributes.specs.Attributes.{sorted_held}
use Rattle.start_records.proofs.UnitRows.{Going, word_in, word_units, units_from}
use Rattle.start_records.proofs.units.write_units.Given as goal

abbrev pub invariant-loop-w : goal.invariant-loop-w
invariant-loop-w l =
    let made = word_units l.index l.tag (sorted_held l.attributes l.n) l.m in
    (length l.out ≡ length l.initial.out)
    × Going (laid l.initial.out 0) l.unit (gather made (tabulate (word_in l.words) 0 l.count)) (laid l.out l.wrote.used) l.wrote.unit (units_from (word_in l.words) made l.count l.w-index)
