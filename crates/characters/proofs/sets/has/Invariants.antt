-- `characters::sets::has` meets its contract: at each turn the rows that are left say what all say.
use mathlib.Core.Path.{◌≡◌}
use lib.ListN.{drop}
use Rattle.laws.specs.Lists.{any}
use Rattle.utf8.specs.Sets.{ranges_of}
use Rattle.utf8.specs.Forms.{meets}
use Rattle.characters.proofs.sets.has.Given as goal

abbrev pub invariant-loop-r : goal.invariant-loop-r
invariant-loop-r l = any (meets l.least l.most) (drop l.r-index l.r-items) ≡ any (meets l.least l.most) (ranges_of l.fn.set)
