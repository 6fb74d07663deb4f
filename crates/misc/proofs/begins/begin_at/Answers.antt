-- `misc::begins::begin_at` meets its contract.
use Rattle.misc.proofs.BeginTurns.{begin_by_lem}
use Rattle.misc.proofs.begins.begin_at.Goals as goal

pub returns-then-inside : goal.returns-then-inside
returns-then-inside c = search begin_by_lem

pub returns : goal.returns
returns c = search begin_by_lem
