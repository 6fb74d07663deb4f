-- `namespaces::declarations::keep_binding` meets its contract.
use Rattle.laws.specs.Tests.{tests}
use Rattle.namespaces.proofs.declarations.keep_binding.Goals as goal

pub returns-then-refused_binding : goal.returns-then-refused_binding
returns-then-refused_binding c = (search tests, search tests)

pub returns : goal.returns
returns c = (search tests, search tests)
