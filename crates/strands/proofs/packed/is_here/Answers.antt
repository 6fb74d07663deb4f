-- `is_here` reads the bit of a packed strand that says whether its unit opened here.
use borrow.Author.Rules.{rules}
use Rattle.strands.specs.Packed.{strand_in}
use Rattle.strands.proofs.packed.is_here.Goals as goal

pub returns : goal.returns
unfolding strand_in
returns c = search rules
