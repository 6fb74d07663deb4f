-- `judging::words_fit` meets its contract: at each turn the answer is that of the rules from the i-th on.
use Prim.Native.Nat.{◌-◌}
use mathlib.Core.Path.{◌≡◌}
use Rattle.laws.specs.Lists.{all, tabulate}
use Rattle.table.specs.Table.{word_at, words_of}
use Rattle.table.specs.Judge.{word_fits}
use Rattle.judging.proofs.words_fit.Given as goal

abbrev pub invariant-loop-i : goal.invariant-loop-i
invariant-loop-i l = all (word_fits l.header) (tabulate (word_at l.table) l.i (l.header.rules - l.i)) ≡ all (word_fits l.header) (words_of l.table l.header)
