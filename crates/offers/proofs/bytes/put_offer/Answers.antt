-- `offers::bytes::put_offer` meets its contract.
use Rattle.offers.proofs.Laid.{offer_laid}
use Rattle.offers.proofs.bytes.put_offer.Goals as goal

pub returns : goal.returns
returns c =
    let a = c.args in
    offer_laid a.offer.now _ _ _ a.session.now a.len c.put8.ensures c.put8-2.ensures c.put_bytes.ensures
