-- `planning::plan_text` meets its contract, by what reading the text answers.
use Prim.Native.Nat.{ℕ}
use mathlib.Core.Path.{refl}
use mathlib.Core.List.{List}
use native.Mathlib.Omega.{arith}
use Rattle.std.specs.Prelude.{Ok, Err}
use Rattle.sessions.specs.Session.{Session}
use Rattle.sessions.specs.declared.Planned.TheVariants as planned
use Rattle.sessions.proofs.EventTurns.{text_inside, stopped_planned, text_planned}
use Rattle.turns.proofs.planning.plan_text.Goals as goal

pub returns-in-Ok : goal.returns-in-Ok
returns-in-Ok c = λ (table index own words schemas attributes : List ℕ) (z : Session) h.
    let a = c.args in
    let s = a.scene.now in
    let v = c.text_end in
    let i = text_inside s a.at _ v.result v.ensures c.in-Ok.is in
    text_planned table index s z own words schemas attributes (Ok (planned.Text a.at c.in-Ok.end)) a.at v.result _ v.ensures c.in-Ok.is (refl, h, omega (arith, c.requires.0, c.requires.1), omega (arith, c.requires.0, i))

pub returns-in-Err : goal.returns-in-Err
returns-in-Err c = λ (table index own words schemas attributes : List ℕ) (z : Session) h.
    let a = c.args in
    let s = a.scene.now in
    let v = c.text_end in
    text_planned table index s z own words schemas attributes (Err c.stopped.result) a.at v.result _ v.ensures c.in-Err.is (stopped_planned table index s z own words schemas attributes c.stopped.result _ c.in-Err.x c.stopped.ensures refl)
