-- `capi::calcivorne_judge` meets its contract.
use Rattle.layout.proofs.Told.{told}
use Rattle.capi.proofs.calcivorne_judge.Goals as goal

pub returns : goal.returns
returns c = let r = told c.judge-a.result _ _ c.judge-a.ensures c.tell.ensures in record { value = r.0; answer_after = r.1 }
