-- `run` meets its contract: a fresh session's numbers and arrays, advanced.
use Rattle.advances.proofs.RunTurns.{run_within}
use Rattle.dispatcher.proofs.run.Goals as goal

pub returns : goal.returns
returns c =
    let a = c.args in
    let h = c.fresh in
    let n = c.steps_within in
    let r = c.advance_in-advanced in
    run_within a.table.now a.scene.now a.out.now n.result n.ensures.0 n.ensures.1 h.result h.ensures r.result c.answer_of.result _ _ _ c.answer_of.ensures r.ensures.out_after
