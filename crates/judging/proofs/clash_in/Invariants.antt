-- `judging::clash_in` meets its contract: at each turn the answer so far and that of the words that are left are the answer.
use mathlib.Core.Path.{◌≡◌}
use mathlib.Core.Bool.{◌||◌}
use lib.ListN.{drop}
use Rattle.laws.specs.Lists.{any}
use Rattle.table.specs.Judge.{rules_clash}
use Rattle.judging.proofs.clash_in.Given as goal

abbrev pub invariant-loop-v : goal.invariant-loop-v
invariant-loop-v l = (l.found || any (rules_clash l.w) (drop l.v-index l.words)) ≡ any (rules_clash l.w) l.words
