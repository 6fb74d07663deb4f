-- `Session::advance` meets its contract: the session is taken apart and put together again.
use Rattle.table.specs.Table.{standard}
use Rattle.sessions.specs.Stepping.{advance_of}
use Rattle.sessions.specs.Session.{Session}
use Rattle.dispatcher.proofs.HandedBack.{next_advanced}
use Rattle.dispatcher.specs.Handed.{held_by}
use Rattle.dispatcher.proofs.Session.advance.Goals as goal

pub returns : goal.returns
returns c =
    let a = c.args in
    let j = c.levels-levels.ensures in
    let h = c.head in
    let s = c.advance_in-advanced in
    next_advanced (λ (z : Session). advance_of standard a.most a.table.now a.scene.now z a.out.now) (held_by a.self) h.result _ s.result c.answer_of.result (held_by c.of.result) _ _ _
    h.ensures j.0 j.1 j.2 c.answer_of.ensures c.of.ensures s.ensures.out_after
