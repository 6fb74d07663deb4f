-- `capi::calcivorne_run` meets its contract.
use Rattle.layout.proofs.Told.{ran_told}
use Rattle.capi.proofs.calcivorne_run.Goals as goal

pub returns : goal.returns
returns c = let r = ran_told c.run-a.result _ _ _ c.run-a.ensures c.tell.ensures in record { value = r.0; answer_after = r.1.0; out_after = r.1.1 }
