-- `opening::begun_of` meets its contract.
use Rattle.openings.proofs.Openings.{begun_is}
use Rattle.openings.proofs.writing.begun_of.Goals as goal

pub returns : goal.returns
returns c =
    let a = c.args in
    begun_is a.at a.tag a.placing _ _ _ _ _ _ c.narrow.ensures c.narrow-2.ensures c.saturating_sub.ensures c.narrow-3.ensures c.narrow-4.ensures c.narrow-5.ensures
