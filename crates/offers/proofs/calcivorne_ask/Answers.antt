-- `offers::calcivorne_ask` meets its contract.
use Rattle.laws.specs.Over.{overwrite}
use lib.ListN.{length}
use Rattle.offers.specs.Layout.{offer_bytes}
use Rattle.offers.specs.Calls.{byte_ask}
use Rattle.offers.proofs.Rooms.{has_room, asked_none, asked_some}
use Rattle.offers.proofs.calcivorne_ask.Goals as goal

pub returns-then-lacks_room : goal.returns-then-lacks_room
returns-then-lacks_room c =
    let a = c.args in
    let r = c.lacks_room in let r = asked_none a.session.now a.offer.now r.result r.ensures a.answer.now (byte_ask a.table.now a.scene.now a.session.now) (overwrite a.offer.now 0 (offer_bytes a.session.now (length a.scene.now))) c.if-lacks_room.true in record { value = r.0; answer_after = r.1.0; offer_after = r.1.1 }

pub ask_bytes-a-requires : goal.ask_bytes-a-requires
ask_bytes-a-requires c =
    let a = c.args in
    let r = c.lacks_room in
    (has_room a.session.now a.offer.now r.result r.ensures c.if-lacks_room.false).0

pub put_offer-requires : goal.put_offer-requires
put_offer-requires c =
    let a = c.args in
    let r = c.lacks_room in
    let room = has_room a.session.now a.offer.now r.result r.ensures c.if-lacks_room.false in
    (room.1, room.0)

pub returns : goal.returns
returns c =
    let a = c.args in
    let r = c.lacks_room in let r = asked_some a.session.now a.offer.now r.result r.ensures a.answer.now (byte_ask a.table.now a.scene.now a.session.now) (overwrite a.offer.now 0 (offer_bytes a.session.now (length a.scene.now))) c.ask_bytes-a.result _ _ c.if-lacks_room.false c.ask_bytes-a.ensures c.tell.ensures c.put_offer.ensures in record { value = r.0; answer_after = r.1.0; offer_after = r.1.1 }
