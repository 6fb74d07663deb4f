-- `judging::length_fits` meets its contract: at each turn the answer is that of what stands from p on.
use native.Mathlib.Omega.{arith}
use Rattle.table.proofs.Walk.{inside}
use Rattle.table.proofs.UriTurns.{length_short, fill_start, fill_done, fill_none, fill_on}
use Rattle.judging.proofs.length_fits.Goals as goal

pub returns-then-table-p : goal.returns-then-table-p
returns-then-table-p c = search length_short

pub loop-i-init : goal.loop-i-init
loop-i-init c = (omega arith, search fill_start)

pub returns-in_default : goal.returns-in_default
returns-in_default c = search (fill_none, c.in_default.ensures)

pub overflow_add-p : goal.overflow_add-p
overflow_add-p c = omega (arith, inside _ _ _ _ c.loop-i-test.true _ c.in-Some.ensures)

pub loop-i-preserved : goal.loop-i-preserved
loop-i-preserved c = (inside _ _ _ _ c.loop-i-test.true _ c.in-Some.ensures, search (fill_on, c.in-Some.ensures))

pub returns : goal.returns
returns c = search fill_done
