-- `Session::ask` meets its contract: the session is taken apart, and offered as it is.
use mathlib.Core.Path.{ap, ◌∙◌}
use Rattle.table.specs.Table.{standard}
use Rattle.table.specs.declared.Answer.{Answer}
use Rattle.sessions.specs.Asking.{ask_answer, asked_as, offer_of}
use Rattle.dispatcher.specs.Handed.{held_by}
use Rattle.sessions.specs.Session.{Session}
use Rattle.sessions.proofs.Parted.{whole_session}
use Rattle.dispatcher.proofs.Session.ask.Goals as goal

pub returns : goal.returns
returns c =
    let a = c.args in
    let l = c.levels-levels.ensures in
    let h = c.head in
    ap (λ (x : Answer). asked_as x (offer_of (held_by a.self) a.scene.now))
    (c.ask_in-answer.ensures ∙ ap (λ (z : Session). ask_answer standard a.table.now a.scene.now z) (whole_session (held_by a.self) h.result _ h.ensures l.0 l.1 l.2))
