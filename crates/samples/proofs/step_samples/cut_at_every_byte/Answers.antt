-- `cut_at_every_byte` meets its contract: a step is one event at most and writes at most 4096 records, so both counts fit.
use native.Mathlib.Omega.{arith}
use borrow.Author.Rules.{rules}
use Rattle.dispatcher.proofs.HandedBack.{step_room, step_one}
use Rattle.samples.proofs.step_samples.cut_at_every_byte.Goals as goal

pub overflow_add-events : goal.overflow_add-events
overflow_add-events g c = omega (arith, step_one _ _ _ _ _ _ c.step-stepped.ensures, c.loop.invariant, c.loop-test.true)

pub overflow_add-records : goal.overflow_add-records
overflow_add-records g c = omega (arith, step_room _ _ _ _ _ _ c.step-stepped.ensures, c.loop.invariant, c.loop-test.true)

pub loop-preserved : goal.loop-preserved
loop-preserved g c =
    let e = c.step-stepped.ensures in
    let l = c.loop.invariant in
    (search rules, search rules, omega (arith, step_one _ _ _ _ _ _ e, l), omega (arith, step_room _ _ _ _ _ _ e, l))
