-- `reader::kinds::prefix_of` meets its contract.
use Rattle.reader.proofs.Names.{up_to}
use Rattle.reader.proofs.kinds.prefix_of.Goals as goal

pub returns : goal.returns
returns c = search up_to
