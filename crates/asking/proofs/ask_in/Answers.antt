-- `asking::ask_in` meets its contract: a table that judge refuses, a scene that is too long, 20, or what comes next.
use Prim.Native.Nat.{ℕ}
use mathlib.Core.Path.{sym, ap, ◌∙◌}
use Rattle.table.specs.Table.{decode}
use Rattle.table.specs.declared.Answer.{Answer}
use Rattle.sessions.specs.Sessions.{session_at}
use Rattle.sessions.specs.Stepping.{plan_of, answered}
use Rattle.sessions.specs.Asking.{plan_answer}
use Rattle.advances.proofs.RunTurns.{then_accepted}
use Rattle.asking.proofs.AskTurns.{by_table, by_length, by_session, by_plan, counted_plan}
use mathlib.Core.Bool.{not}
use Rattle.asking.proofs.ask_in.Goals as goal

pub returns-then-judged-ne0 : goal.returns-then-judged-ne0
returns-then-judged-ne0 c =
    let a = c.args in
    let z = session_at a.head a.levels a.bindings in
    c.counted.ensures ∙ by_table a.table.now a.scene.now z (λ (n p : ℕ). answered n p 0 0) (plan_answer (plan_of (decode a.table.now) a.scene.now z)) c.judge-judged.result c.judge-judged.ensures c.if-judged-ne0.true

pub returns-then-scene-gt-LONGEST : goal.returns-then-scene-gt-LONGEST
returns-then-scene-gt-LONGEST c =
    let a = c.args in
    let z = session_at a.head a.levels a.bindings in
    c.counted-then-scene-gt-LONGEST.ensures ∙ by_length a.table.now a.scene.now z (λ (n p : ℕ). answered n p 0 0) (plan_answer (plan_of (decode a.table.now) a.scene.now z)) c.judge-judged.result c.judge-judged.ensures c.if-judged-ne0.false c.if-scene-gt-LONGEST.true

pub returns-then-not-coherent : goal.returns-then-not-coherent
returns-then-not-coherent c =
    let a = c.args in
    let z = session_at a.head a.levels a.bindings in
    c.counted-then-not-coherent.ensures ∙ by_session a.table.now a.scene.now z (λ (n p : ℕ). answered n p 0 0) (plan_answer (plan_of (decode a.table.now) a.scene.now z)) c.judge-judged.result c.judge-judged.ensures c.if-judged-ne0.false c.if-scene-gt-LONGEST.false c.header_of-header.result c.header_of-header.ensures c.coherent.result c.coherent.ensures (ap not c.if-not-coherent.true)

pub asked_step-turn-requires : goal.asked_step-turn-requires
asked_step-turn-requires c =
    let a = c.args in
    let j = c.judge-judged in
    (then_accepted a.table.now a.scene.now j.result j.ensures c.if-judged-ne0.false, c.header_of-header.ensures, c.if-scene-gt-LONGEST.false, sym c.coherent.ensures ∙ c.if-not-coherent.false)

pub returns : goal.returns
returns c =
    let a = c.args in
    let z = session_at a.head a.levels a.bindings in
    let p = plan_of (decode a.table.now) a.scene.now z in
    c.counted-2.ensures
    ∙ ap (λ (x : Answer). answered x.number x.place 0 x.records) c.asked_step-turn.ensures
    ∙ counted_plan p z
    ∙ by_plan a.table.now a.scene.now z (λ (n p : ℕ). answered n p 0 0) (plan_answer p) c.judge-judged.result c.judge-judged.ensures c.if-judged-ne0.false c.if-scene-gt-LONGEST.false c.header_of-header.result c.header_of-header.ensures c.coherent.result c.coherent.ensures (ap not c.if-not-coherent.false)
