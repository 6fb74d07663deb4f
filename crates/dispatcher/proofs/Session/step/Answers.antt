-- `Session::step` meets its contract: an advance by one is a step.
use mathlib.Core.Path.{◌∙◌}
use Rattle.sessions.proofs.Advancing.{advance_one}
use Rattle.dispatcher.specs.Handed.{held_by}
use Rattle.dispatcher.proofs.Session.step.Goals as goal

pub returns : goal.returns
returns c =
    let a = c.args in
    c.advance.ensures ∙ advance_one a.table.now a.scene.now (held_by a.self) a.out.now
