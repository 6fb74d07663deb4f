-- `mode_of` reads the low five bits of a packed strand.
use borrow.Author.Rules.{rules}
use Rattle.strands.specs.Packed.{strand_in}
use Rattle.strands.proofs.packed.mode_of.Goals as goal

pub returns : goal.returns
unfolding strand_in
returns c = search rules
