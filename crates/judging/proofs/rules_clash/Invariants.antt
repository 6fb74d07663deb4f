-- `judging::rules_clash` meets its contract: at each turn the answer is that of the rules from the i-th on.
use mathlib.Core.Path.{◌≡◌}
use lib.ListN.{drop}
use Rattle.laws.specs.Lists.{any_pair}
use Rattle.table.specs.Table.{words_of}
use Rattle.table.specs.Judge.{rules_clash}
use Rattle.judging.proofs.rules_clash.Given as goal

abbrev pub invariant-loop-i : goal.invariant-loop-i
invariant-loop-i l = any_pair rules_clash (drop l.i l.words) ≡ any_pair rules_clash (words_of l.table l.fn.header)
