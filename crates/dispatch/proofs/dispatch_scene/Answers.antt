-- `dispatch_scene` meets its contract: a step writes at most 4096 records, so their count fits.
use native.Mathlib.Omega.{arith}
use borrow.Author.Rules.{rules}
use Rattle.dispatcher.proofs.HandedBack.{step_room}
use Rattle.dispatch.proofs.dispatch_scene.Goals as goal

pub overflow_add-records : goal.overflow_add-records
overflow_add-records g c = omega (arith, step_room _ _ _ _ _ _ c.step-stepped.ensures, c.loop-events.invariant, c.loop-events-test.true)

pub loop-events-preserved : goal.loop-events-preserved
loop-events-preserved g c = (search rules, omega (arith, step_room _ _ _ _ _ _ c.step-stepped.ensures, c.loop-events.invariant))
