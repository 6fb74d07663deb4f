-- `scopes::same_name` meets its contract.
use Rattle.reader.proofs.Colons.{same_bytes}
use Rattle.reader.proofs.scopes.same_name.Goals as goal

pub returns : goal.returns
returns c = same_bytes _ _ _ _ _ c.part_of.ensures.bytes c.part_of-2.ensures.bytes c.same.ensures
