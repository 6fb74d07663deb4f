-- `offers::Offer::commit` meets its contract: both sessions are taken apart and compared, and what is committed is put together.
use mathlib.Core.Path.{◌∙◌}
use mathlib.Core.Bool.{◌&&◌}
use lib.ListN.{length}
use lib.Dec.{eqb}
use Rattle.table.specs.Table.{standard}
use Rattle.sessions.specs.Asking.{step_where}
use Rattle.sessions.specs.Session.{Session}
use Rattle.sessions.proofs.Parted.{whole_session}
use Rattle.dispatcher.proofs.HandedBack.{next_advanced}
use Rattle.asking.proofs.OfferTurns.{commit_told}
use Rattle.dispatcher.specs.Handed.{held_by, held_offer}
use Rattle.dispatcher.proofs.offers.Offer.commit.Goals as goal

pub returns : goal.returns
returns c =
    let a = c.args in
    let j = c.levels-levels.ensures in
    let k = c.levels-offered_levels.ensures in
    let h = c.head in
    let i = c.head-2 in
    let same = c.same_session-same in
    let g = c.head-3 in
    let s = c.commit_in-committed in
    next_advanced (λ (z : Session). step_where (same.result && eqb (length a.scene.now) a.self.length) standard a.table.now a.scene.now z a.out.now) (held_by a.session) g.result _ s.result c.answer_of.result (held_by c.of.result) _ _ _
    g.ensures j.0 j.1 j.2 c.answer_of.ensures c.of.ensures s.ensures.out_after
    ∙ commit_told (held_offer a.self) (held_by a.session) a.table.now a.scene.now a.out.now h.result i.result _ _ same.result
    (whole_session (held_by a.session) h.result _ h.ensures j.0 j.1 j.2) (whole_session (held_by a.self.session) i.result _ i.ensures k.0 k.1 k.2) same.ensures
