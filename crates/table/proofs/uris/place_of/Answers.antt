-- `table::uris::place_of` meets its contract: at each turn the answer is that of the places from p on.
use mathlib.Core.Path.{◌∙◌}
use native.Mathlib.Omega.{arith}
use Rattle.table.proofs.Walk.{inside}
use Rattle.table.proofs.UriTurns.{place_start, place_done, place_none, place_here, place_on}
use Rattle.table.proofs.uris.place_of.Goals as goal

pub loop-i-init : goal.loop-i-init
loop-i-init c = search place_start

pub returns-in_err-u : goal.returns-in_err-u
returns-in_err-u c = c.from_residual.ensures ∙ place_none _ _ _ _ _ _ c.loop-i.invariant c.loop-i-test.true c.in_err-u.ensures

pub returns-then-i-class : goal.returns-then-i-class
returns-then-i-class c = search (place_here, c.in_ok-u.ensures)

pub overflow_add-p : goal.overflow_add-p
overflow_add-p c = omega (arith, inside _ _ _ _ c.loop-i-test.true _ c.in_ok-u.ensures)

pub loop-i-preserved : goal.loop-i-preserved
loop-i-preserved c = search (place_on, c.in_ok-u.ensures)

pub returns : goal.returns
returns c = search place_done
