-- `names::is_part` meets its contract.
use Rattle.coherence.proofs.NameChecks.{is_part_lem}
use Rattle.coherence.proofs.names.is_part.Goals as goal

pub returns : goal.returns
returns c = search is_part_lem
