-- `misc::begins::ahead_at` meets its contract, by the cases of what its callees answer.
use Rattle.laws.specs.Tests.{tests}
use Rattle.misc.proofs.BeginTurns.{ahead_by}
use Rattle.misc.proofs.begins.ahead_at.Goals as goal

pub returns-then-closed : goal.returns-then-closed
returns-then-closed c = search (ahead_by, tests)

pub returns-in-Ok : goal.returns-in-Ok
returns-in-Ok c = search (ahead_by, tests)

pub returns-else-closed : goal.returns-else-closed
returns-else-closed c = search (ahead_by, tests)
