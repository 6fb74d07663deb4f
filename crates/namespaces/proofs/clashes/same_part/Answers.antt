-- `namespaces::clashes::same_part` meets its contract.
use mathlib.Core.Path.{◌∙◌}
use Rattle.namespaces.proofs.clashes.same_part.Goals as goal

pub returns : goal.returns
returns c = c.same.ensures ∙ rw (c.bytes_between.ensures, c.bytes_between-2.ensures)
