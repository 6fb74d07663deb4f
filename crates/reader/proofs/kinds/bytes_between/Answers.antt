-- `reader::kinds::bytes_between` meets its contract.
use Rattle.reader.proofs.Names.{long}
use Rattle.reader.proofs.kinds.bytes_between.Goals as goal

pub returns : goal.returns
returns c = search long
