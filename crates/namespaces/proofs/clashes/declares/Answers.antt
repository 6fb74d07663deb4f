-- `namespaces::clashes::declares` meets its contract.
use mathlib.Core.Path.{ap, ◌∙◌}
use Rattle.reader.specs.Stored.{is_declaration}
use Rattle.namespaces.proofs.clashes.declares.Goals as goal

pub returns : goal.returns
returns c = c.is_declaration.ensures ∙ ap is_declaration c.kind_of.ensures
