-- `reader::kinds::has_reference` meets its contract.
use mathlib.Core.Path.{◌∙◌}
use Rattle.reader.proofs.Any.{any_listed}
use Rattle.reader.proofs.kinds.has_reference.Goals as goal

pub returns : goal.returns
returns c = c.contains.ensures.value ∙ any_listed _ _
