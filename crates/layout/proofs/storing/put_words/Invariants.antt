-- `layout::storing::put_words` meets its contract: the first i numbers are stored.
use Rattle.std.proofs.Common.{◌≡◌, take}
use Rattle.laws.specs.Gather.{gather}
use Rattle.laws.specs.Over.{overwrite}
use Rattle.layout.specs.Layout.{bytes4}
use Rattle.layout.proofs.storing.put_words.Given as goal

abbrev pub invariant-loop-i : goal.invariant-loop-i
invariant-loop-i l = l.b ≡ overwrite l.initial.b l.at (gather bytes4 (take l.i l.words))
