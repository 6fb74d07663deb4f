-- `readings::read_start` meets its contract, by what reading the tag answers.
use mathlib.Core.Path.{sym, ◌∙◌}
use Rattle.sessions.specs.Sessions.{session_of}
use Rattle.starts.proofs.TagReadings.{attrs_read, answer_read, stopped_read}
use Rattle.starts.proofs.readings.read_start.Goals as goal

pub returns-in-Ok : goal.returns-in-Ok
returns-in-Ok c =
    let a = c.args in
    let r = c.start_tag in
    let e = sym r.ensures.0 ∙ c.in-Ok.is in
    λ table index levels spaces strands header w b.
    answer_read table a.scene.now (session_of a.head levels a.bindings.now spaces strands) a.at _ _ _ _ _ _ e
    (c.read_meaning.ensures table index levels spaces strands header w b e (attrs_read a.scene.now a.at _ a.scratch.now.attrs _ w.short e r.ensures.1))

pub returns-in-Err : goal.returns-in-Err
returns-in-Err c =
    let a = c.args in
    let r = c.start_tag in
    λ table index levels spaces strands header w b.
    let z = session_of a.head levels a.bindings.now spaces strands in
    answer_read table a.scene.now z a.at _ _ _ _ _ _ (sym r.ensures.0 ∙ c.in-Err.is)
    (stopped_read table a.scene.now z a.at c.in-Err.x c.stopped.result _ _ _ a.known.now c.stopped.ensures b)
