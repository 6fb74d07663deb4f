-- `reader::kinds::kind_of` meets its contract, at each way out.
use Rattle.laws.specs.Tests.{tests}
use Rattle.reader.proofs.Names.{with_prefix, without_prefix}
use Rattle.reader.proofs.kinds.kind_of.Goals as goal

pub returns-then-same : goal.returns-then-same
returns-then-same c = search (with_prefix, tests)

pub returns-else-same : goal.returns-else-same
returns-else-same c = search (with_prefix, tests)

pub returns-then-same-2 : goal.returns-then-same-2
returns-then-same-2 c = search (without_prefix, tests)

pub returns-else-same-2 : goal.returns-else-same-2
returns-else-same-2 c = search (without_prefix, tests)
