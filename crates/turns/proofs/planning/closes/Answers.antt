-- `planning::closes` meets its contract: the byte behind the name first, then the name.
use mathlib.Core.Path.{sym, ◌∙◌}
use native.Mathlib.Omega.{arith}
use borrow.Author.Tests.{eqb-true, eqb-false}
use Rattle.sessions.proofs.EventTurns.{closes_past, closes_other, closes_same}
use Rattle.turns.proofs.planning.closes.Goals as goal
use Rattle.turns.proofs.planning.closes.Goals.{then-end-scene, else-end-scene}

pub returns-then-scene-end-eq62 : goal.returns-then-scene-end-eq62
returns-then-scene-end-eq62 c =
    let a = c.args in
    elim c.if-end-scene.branch [
      | then-end-scene w ↦ closes_same a.scene.now a.at a.name (omega arith) (eqb-true _ 0x3E (sym w.value-is ∙ c.if-scene-end-eq62.true)) _ c.same.ensures
      | else-end-scene w ↦ absurd (omega arith)
    ]

pub returns-else-scene-end-eq62 : goal.returns-else-scene-end-eq62
returns-else-scene-end-eq62 c =
    let a = c.args in
    elim c.if-end-scene.branch [
      | then-end-scene w ↦ c.if-scene-end-eq62.false ∙ closes_other a.scene.now a.at a.name (omega arith) (eqb-false _ 0x3E (sym w.value-is ∙ c.if-scene-end-eq62.false))
      | else-end-scene w ↦ c.if-scene-end-eq62.false ∙ closes_past a.scene.now a.at a.name (omega arith)
    ]
