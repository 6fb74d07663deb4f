-- `offers::ask_bytes` meets its contract.
use Rattle.sessions.specs.Sessions.{session_at}
use Rattle.layout.specs.Layout.{session_in}
use Rattle.layout.proofs.Lent.{parts_joined}
use Rattle.offers.proofs.ByteOffers.{none_asked, then_asked}
use mathlib.Core.Bool.{not}
use mathlib.Core.Path.{ap}
use Rattle.offers.proofs.ask_bytes.Goals as goal

pub returns-then-not-holds_session : goal.returns-then-not-holds_session
returns-then-not-holds_session c =
    let a = c.args in
    let held = c.holds_session in
    none_asked a.table.now a.scene.now a.session.now held.result held.ensures c.no_session.result (ap not c.if-not-holds_session.true) c.no_session.ensures

pub returns : goal.returns
returns c =
    let a = c.args in
    let held = c.holds_session in
    let ar = c.arrays_in in
    let hd = c.head_in in
    let read = ar.new in
    let z = session_at hd.result read.levels read.bindings in
    let joined = parts_joined (session_in a.session.now) hd.result read.levels read.bindings hd.ensures ar.ensures.0 ar.ensures.1 ar.ensures.2 ar.ensures.3 in
    then_asked a.table.now a.scene.now a.session.now held.result held.ensures z c.ask_in.result (ap not c.if-not-holds_session.false) joined c.ask_in.ensures
