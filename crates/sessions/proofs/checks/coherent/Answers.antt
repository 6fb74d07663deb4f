-- `checks::coherent` meets its contract.
use Rattle.std.proofs.Common.{◌≡◌, true, false, not, ap}
use Rattle.sessions.proofs.CheckedWhole.{session_head, session_arrays}
use Rattle.sessions.proofs.checks.coherent.Goals as goal

pub returns-else-head_fits : goal.returns-else-head_fits
returns-else-head_fits c = search session_head

pub returns-then-head_fits : goal.returns-then-head_fits
returns-then-head_fits c = search session_arrays
