-- `levels::same_strand` meets its contract.
use Rattle.equality.proofs.Turns.{strand_said}
use Rattle.equality.proofs.levels.same_strand.Goals as goal

pub returns : goal.returns
returns c = search strand_said
