-- `layout::storing::words_in` meets its contract: the first i numbers are filled in.
use Rattle.std.proofs.Common.{◌≡◌, ℕ, ◌+◌, ◌*◌}
use Rattle.laws.specs.Lists.{tabulate}
use Rattle.laws.specs.Over.{overwrite}
use Rattle.layout.specs.Layout.{word4}
use Rattle.layout.proofs.storing.words_in.Given as goal

abbrev pub invariant-loop-i : goal.invariant-loop-i
invariant-loop-i l = l.words ≡ overwrite l.initial.words 0 (tabulate (λ (k : ℕ). word4 l.b (l.at + 4 * k)) 0 l.i)
