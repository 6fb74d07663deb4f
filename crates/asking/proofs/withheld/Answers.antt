-- `asking::withheld` meets its contract: a table that judge refuses, a scene that is too long, 20, or 30.
use Prim.Native.Nat.{ℕ}
use mathlib.Core.Path.{ap, ◌∙◌}
use Rattle.table.specs.declared.Answer.{Answer}
use Rattle.sessions.specs.Sessions.{session_at}
use Rattle.sessions.specs.Stepping.{given, refused_step}
use Rattle.advances.proofs.RunTurns.{none_advanced}
use Rattle.asking.proofs.AskTurns.{by_table, by_length, by_session, by_plan}
use mathlib.Core.Bool.{not}
use Rattle.asking.proofs.withheld.Goals as goal

pub returns-then-judged-ne0 : goal.returns-then-judged-ne0
returns-then-judged-ne0 c out =
    let a = c.args in
    let n = c.none_taken in
    let z = session_at a.head a.levels.now a.bindings.now in
    (none_advanced n.result a.head a.levels.now a.bindings.now out _ n.ensures.1 (ap (λ (x : Answer). given x z out) n.ensures.0 ∙ by_table a.table.now a.scene.now z (λ (n p : ℕ). refused_step n p z out) (refused_step 30 0 z out) c.judge-judged.result c.judge-judged.ensures c.if-judged-ne0.true))

pub returns-then-scene-gt-LONGEST : goal.returns-then-scene-gt-LONGEST
returns-then-scene-gt-LONGEST c out =
    let a = c.args in
    let n = c.none_taken-then-scene-gt-LONGEST in
    let z = session_at a.head a.levels.now a.bindings.now in
    (none_advanced n.result a.head a.levels.now a.bindings.now out _ n.ensures.1 (ap (λ (x : Answer). given x z out) n.ensures.0 ∙ by_length a.table.now a.scene.now z (λ (n p : ℕ). refused_step n p z out) (refused_step 30 0 z out) c.judge-judged.result c.judge-judged.ensures c.if-judged-ne0.false c.if-scene-gt-LONGEST.true))

pub returns-then-not-coherent : goal.returns-then-not-coherent
returns-then-not-coherent c out =
    let a = c.args in
    let n = c.none_taken-then-not-coherent in
    let z = session_at a.head a.levels.now a.bindings.now in
    (none_advanced n.result a.head a.levels.now a.bindings.now out _ n.ensures.1 (ap (λ (x : Answer). given x z out) n.ensures.0 ∙ by_session a.table.now a.scene.now z (λ (n p : ℕ). refused_step n p z out) (refused_step 30 0 z out) c.judge-judged.result c.judge-judged.ensures c.if-judged-ne0.false c.if-scene-gt-LONGEST.false c.header_of.result c.header_of.ensures c.coherent.result c.coherent.ensures (ap not c.if-not-coherent.true)))

pub returns : goal.returns
returns c out =
    let a = c.args in
    let n = c.none_taken-2 in
    let z = session_at a.head a.levels.now a.bindings.now in
    (none_advanced n.result a.head a.levels.now a.bindings.now out _ n.ensures.1 (ap (λ (x : Answer). given x z out) n.ensures.0 ∙ by_plan a.table.now a.scene.now z (λ (n p : ℕ). refused_step n p z out) (refused_step 30 0 z out) c.judge-judged.result c.judge-judged.ensures c.if-judged-ne0.false c.if-scene-gt-LONGEST.false c.header_of.result c.header_of.ensures c.coherent.result c.coherent.ensures (ap not c.if-not-coherent.false)))
