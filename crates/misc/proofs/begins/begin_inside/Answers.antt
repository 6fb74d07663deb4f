-- `misc::begins::begin_inside` meets its contract: what stands there is told at once, or by the loop.
use Rattle.laws.specs.Tests.{tests}
use Rattle.misc.proofs.BeginTurns.{text_here, end_here, start_here}
use Rattle.misc.proofs.begins.begin_inside.Goals as goal

pub returns-then-s-at-ne60 : goal.returns-then-s-at-ne60
returns-then-s-at-ne60 c = search text_here

pub returns-then-b-eq47 : goal.returns-then-b-eq47
returns-then-b-eq47 c = search end_here

pub returns-then-not-opens_misc : goal.returns-then-not-opens_misc
returns-then-not-opens_misc c = search (start_here, tests)
