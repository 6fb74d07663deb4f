-- `judging::lists_empty` meets its contract.
use Rattle.table.proofs.UriTurns.{empty_listed}
use Rattle.judging.proofs.lists_empty.Goals as goal

pub returns : goal.returns
returns c = search empty_listed
