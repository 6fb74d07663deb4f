-- `table::uris::listed_from` meets its contract: at each turn the answer is that of the URIs from p on.
use native.Mathlib.Omega.{arith}
use Rattle.table.proofs.Walk.{inside}
use Rattle.table.proofs.UriTurns.{listed_start, listed_done, listed_none, listed_here, listed_on}
use Rattle.table.proofs.uris.listed_from.Goals as goal

pub loop-i-init : goal.loop-i-init
loop-i-init c = search listed_start

pub returns-in_default : goal.returns-in_default
returns-in_default c = search (listed_none, c.in_default.ensures)

pub returns-then-same : goal.returns-then-same
returns-then-same c = search (listed_here, c.in-Some.ensures)

pub overflow_add-p : goal.overflow_add-p
overflow_add-p c = omega (arith, inside _ _ _ _ c.loop-i-test.true _ c.in-Some.ensures)

pub loop-i-preserved : goal.loop-i-preserved
loop-i-preserved c = search (listed_on, c.in-Some.ensures)

pub returns : goal.returns
returns c = search listed_done
