-- `offers::commit_bytes` meets its contract.
use Rattle.table.specs.Table.{standard}
use Rattle.sessions.specs.Stepping.{given}
use Rattle.sessions.specs.Sessions.{session_at}
use Rattle.sessions.specs.Asking.{step_where}
use Rattle.layout.specs.Layout.{session_in}
use Rattle.layout.proofs.Lent.{parts_joined, lent_handed}
use Rattle.layout.proofs.Told.{no_event, some_events}
use Rattle.offers.proofs.ByteOffers.{none_held, committed}
use mathlib.Core.Bool.{not}
use mathlib.Core.Path.{ap}
use Rattle.offers.proofs.commit_bytes.Goals as goal

pub returns-then-not-holds_session : goal.returns-then-not-holds_session
returns-then-not-holds_session c =
    let a = c.args in
    let held = c.holds_session in let r = none_held a.table.now a.scene.now a.session.now held.result held.ensures a.offer.now a.out.now c.no_session.result (ap not c.if-not-holds_session.true) c.no_session.ensures in record { value = r.0; out_after = r.1.0; session_after = r.1.1 }

pub returns-then-a-eq0 : goal.returns-then-a-eq0
returns-then-a-eq0 c =
    let a = c.args in
    let held = c.holds_session in
    let ar = c.arrays_in in
    let hd = c.head_in-head in
    let o = c.is_offered in
    let s = c.commit_in-committed in
    let w = c.answer_of-a in
    let before = ar.new in
    let after = s.new in
    let z = session_at hd.result before.levels before.bindings in
    let joined = parts_joined (session_in a.session.now) hd.result before.levels before.bindings hd.ensures ar.ensures.0 ar.ensures.1 ar.ensures.2 ar.ensures.3 in
    let out' = after.out in
    let gone = lent_handed s.result w.result after.levels after.bindings out' (step_where o.result standard a.table.now a.scene.now z a.out.now) w.ensures s.ensures.out_after in
    let r = given w.result (session_at s.result.head after.levels after.bindings) out' in let r = no_event a.session.now r _ (committed a.table.now a.scene.now a.session.now held.result held.ensures a.offer.now a.out.now (ap not c.if-not-holds_session.false) z joined o.result o.ensures r gone) c.if-a-eq0.true in record { value = r.0; out_after = r.1.0; session_after = r.1.1 }

pub put_session-requires : goal.put_session-requires
put_session-requires c = c.requires.0

pub returns : goal.returns
returns c =
    let a = c.args in
    let held = c.holds_session in
    let ar = c.arrays_in in
    let hd = c.head_in-head in
    let o = c.is_offered in
    let s = c.commit_in-committed in
    let w = c.answer_of-a in
    let before = ar.new in
    let after = s.new in
    let z = session_at hd.result before.levels before.bindings in
    let joined = parts_joined (session_in a.session.now) hd.result before.levels before.bindings hd.ensures ar.ensures.0 ar.ensures.1 ar.ensures.2 ar.ensures.3 in
    let out' = after.out in
    let gone = lent_handed s.result w.result after.levels after.bindings out' (step_where o.result standard a.table.now a.scene.now z a.out.now) w.ensures s.ensures.out_after in
    let r = given w.result (session_at s.result.head after.levels after.bindings) out' in let r = some_events a.session.now r _ (committed a.table.now a.scene.now a.session.now held.result held.ensures a.offer.now a.out.now (ap not c.if-not-holds_session.false) z joined o.result o.ensures r gone) _ c.if-a-eq0.false c.put_session.ensures in record { value = r.0; out_after = r.1.0; session_after = r.1.1 }
