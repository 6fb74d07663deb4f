-- `namespaces::clashes::same_name` meets its contract.
use mathlib.Core.Path.{◌∙◌}
use Rattle.namespaces.proofs.clashes.same_name.Goals as goal

pub returns : goal.returns
returns c = c.same.ensures ∙ rw (c.whole_of.ensures, c.whole_of-2.ensures)
