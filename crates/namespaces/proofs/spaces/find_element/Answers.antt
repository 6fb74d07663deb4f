-- `namespaces::spaces::find_element` meets its contract, at each way out.
use Rattle.laws.specs.Tests.{tests}
use Rattle.reader.proofs.InForce.{element_with, element_without}
use Rattle.namespaces.proofs.spaces.find_element.Goals as goal

pub returns-then-name : goal.returns-then-name
returns-then-name c = search element_without

pub returns-then-same : goal.returns-then-same
returns-then-same c = search (element_with, tests)

pub returns-else-same : goal.returns-else-same
returns-else-same c = search (element_with, tests)
