-- `offers::calcivorne_commit` meets its contract.
use Rattle.offers.specs.Calls.{byte_commit}
use Rattle.offers.proofs.Rooms.{has_room, committed_none, committed_some}
use Rattle.offers.proofs.calcivorne_commit.Goals as goal

pub returns-then-lacks_room : goal.returns-then-lacks_room
returns-then-lacks_room c =
    let a = c.args in
    let r = c.lacks_room in let r = committed_none a.session.now a.offer.now r.result r.ensures a.answer.now a.out.now (byte_commit a.offer.now a.session.now a.table.now a.scene.now a.out.now) c.if-lacks_room.true in record { value = r.0; answer_after = r.1.0; out_after = r.1.1.0; session_after = r.1.1.1 }

pub commit_bytes-a-requires : goal.commit_bytes-a-requires
commit_bytes-a-requires c =
    let a = c.args in
    let r = c.lacks_room in
    has_room a.session.now a.offer.now r.result r.ensures c.if-lacks_room.false

pub returns : goal.returns
returns c =
    let a = c.args in
    let r = c.lacks_room in let r = committed_some a.session.now a.offer.now r.result r.ensures a.answer.now a.out.now (byte_commit a.offer.now a.session.now a.table.now a.scene.now a.out.now) c.commit_bytes-a.result _ _ _ c.if-lacks_room.false (c.commit_bytes-a.ensures.value, (c.commit_bytes-a.ensures.out_after, c.commit_bytes-a.ensures.session_after)) c.tell.ensures in record { value = r.0; answer_after = r.1.0; out_after = r.1.1.0; session_after = r.1.1.1 }
