-- `layout::answers::no_session` meets its contract.
use lib.Dec.{ltb}
use lib.ListN.{length}
use Rattle.table.specs.Judge.{judged}
use Rattle.sessions.specs.Stepping.{longest}
use Rattle.layout.proofs.Unheld.{unheld_judged, unheld_long, unheld_short}
use Rattle.layout.proofs.answers.no_session.Goals as goal

pub returns-then-judged-ne0 : goal.returns-then-judged-ne0
returns-then-judged-ne0 c =
    let a = c.args in
    unheld_judged (judged a.table.now) c.judge-judged.result c.refusal.result (ltb longest (length a.scene.now)) c.judge-judged.ensures c.if-judged-ne0.true c.refusal.ensures

pub returns-then-scene-gt-LONGEST : goal.returns-then-scene-gt-LONGEST
returns-then-scene-gt-LONGEST c =
    let a = c.args in
    unheld_long (judged a.table.now) c.judge-judged.result c.refusal-then-scene-gt-LONGEST.result a.scene.now c.judge-judged.ensures c.if-judged-ne0.false c.if-scene-gt-LONGEST.true c.refusal-then-scene-gt-LONGEST.ensures

pub returns : goal.returns
returns c =
    let a = c.args in
    unheld_short (judged a.table.now) c.judge-judged.result c.refusal-2.result a.scene.now c.judge-judged.ensures c.if-judged-ne0.false c.if-scene-gt-LONGEST.false c.refusal-2.ensures
