-- `namespaces::clashes::same_space` meets its contract.
use Rattle.reader.specs.Namespaces.{same_namespace}
use Rattle.namespaces.proofs.clashes.same_space.Goals as goal

pub returns : goal.returns
unfolding same_namespace
returns c = rw (← c.uri_of.ensures) c.has_uri.ensures
