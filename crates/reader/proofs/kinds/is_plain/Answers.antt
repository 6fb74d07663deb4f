-- `reader::kinds::is_plain` meets its contract.
use Rattle.reader.proofs.Plain.{plain_test}
use Rattle.reader.proofs.kinds.is_plain.Goals as goal

pub returns : goal.returns
returns c = search plain_test
