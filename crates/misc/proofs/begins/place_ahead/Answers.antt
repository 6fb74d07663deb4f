-- `misc::begins::place_ahead` meets its contract.
use Rattle.laws.specs.Tests.{tests}
use Rattle.misc.proofs.begins.place_ahead.Goals as goal

pub returns-then-inside : goal.returns-then-inside
returns-then-inside c = search tests

pub returns : goal.returns
returns c = search tests
