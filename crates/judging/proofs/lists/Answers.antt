-- `judging::lists` meets its contract.
use Rattle.table.proofs.UriTurns.{is_listed}
use Rattle.judging.proofs.lists.Goals as goal

pub returns : goal.returns
returns c = is_listed _ _ _ c.requires _ c.listed_from.ensures
