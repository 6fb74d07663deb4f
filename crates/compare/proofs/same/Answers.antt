-- `compare::same` meets its contract.
use mathlib.Core.Path.{◌∙◌}
use Rattle.compare.proofs.Equal.{same_pairs}
use Rattle.compare.proofs.same.Goals as goal

pub returns : goal.returns
returns c = c.eq.ensures ∙ same_pairs _ _
