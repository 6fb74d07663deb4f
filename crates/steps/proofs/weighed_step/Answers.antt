-- `steps::weighed_step` meets its contract: what comes next, counted and laid down.
use mathlib.Core.Path.{sym, ap, ◌∙◌}
use mathlib.Core.List.{[]}
use native.Mathlib.Omega.{arith}
use lib.ListN.{length}
use Rattle.table.specs.Table.{decode}
use Rattle.sessions.specs.Sessions.{session_at}
use Rattle.sessions.specs.Stepping.{Plan, plan_of}
use Rattle.sessions.specs.Turns.{weighed}
use Rattle.steps.proofs.PlanTurns.{start_as, text_as, end_as, awaited_as, finished_as, refused_as, start_roomy, text_needs, weighed_turn, stop_weighed}
use Rattle.steps.proofs.weighed_step.Goals as goal

pub plan_event-requires : goal.plan_event-requires
plan_event-requires c = c.requires

pub lay_level-requires : goal.lay_level-requires
lay_level-requires c =
    let a = c.args in
    let f = start_as a.table.now a.index.now a.scene.now (session_at a.head a.levels.now a.bindings.now) _ _ _ _ _ c.plan_event.result c.plan_event.ensures.0 _ _ _ c.in-Ok-Start.is c.in-Ok-Start.field-0-is in
    (start_roomy a.table.now a.index.now a.scene.now a.head a.levels.now a.bindings.now _ _ _ _ _ _ _ _ f, f.openable.few_strands)

pub weigh_text-requires : goal.weigh_text-requires
weigh_text-requires c =
    let a = c.args in
    let f = text_as a.table.now a.index.now a.scene.now (session_at a.head a.levels.now a.bindings.now) _ _ _ _ _ c.plan_event.result c.plan_event.ensures.0 _ _ c.in-Ok-Text.is c.in-Ok-Text.field-0-is in
    text_needs a.table.now a.index.now a.scene.now a.known.now a.head a.levels.now a.bindings.now c.requires f.1

pub weigh_end-requires : goal.weigh_end-requires
weigh_end-requires c =
    let a = c.args in
    let f = end_as a.table.now a.index.now a.scene.now (session_at a.head a.levels.now a.bindings.now) _ _ _ _ _ c.plan_event.result c.plan_event.ensures.0 _ _ _ c.in-Ok-End.is c.in-Ok-End.field-0-is in
    text_needs a.table.now a.index.now a.scene.now a.known.now a.head a.levels.now a.bindings.now c.requires f.1

pub weigh_end-requires-in-Ok-Awaited : goal.weigh_end-requires-in-Ok-Awaited
weigh_end-requires-in-Ok-Awaited c =
    let a = c.args in
    let f = awaited_as a.table.now a.index.now a.scene.now (session_at a.head a.levels.now a.bindings.now) _ _ _ _ _ c.plan_event.result c.plan_event.ensures.0 _ _ c.in-Ok-Awaited.is c.in-Ok-Awaited.field-0-is in
    text_needs a.table.now a.index.now a.scene.now a.known.now a.head a.levels.now a.bindings.now c.requires f.1

pub returns-in-Ok-Start : goal.returns-in-Ok-Start
returns-in-Ok-Start c =
    let a = c.args in
    let s = a.scene.now in
    let z = session_at a.head a.levels.now a.bindings.now in
    let p = plan_of (decode a.table.now) s z in
    let e = c.plan_event.ensures in
    let f = start_as a.table.now a.index.now s z _ _ _ _ p c.plan_event.result e.0 _ _ _ c.in-Ok-Start.is c.in-Ok-Start.field-0-is in
    weighed_turn a.table.now s _ z e.1 p e.2 _ (c.lay_level.ensures.bindings_after a.table.now a.index.now s _ _ p c.requires.ready f)

pub returns-in-Ok-Text : goal.returns-in-Ok-Text
returns-in-Ok-Text c =
    let a = c.args in
    let s = a.scene.now in
    let z = session_at a.head a.levels.now a.bindings.now in
    let p = plan_of (decode a.table.now) s z in
    let e = c.plan_event.ensures in
    let f = text_as a.table.now a.index.now s z _ _ _ _ p c.plan_event.result e.0 _ _ c.in-Ok-Text.is c.in-Ok-Text.field-0-is in
    weighed_turn a.table.now s _ z e.1 p e.2 _ (c.weigh_text.ensures (decode a.table.now) s a.bindings.now _ ∙ ap (λ (q : Plan). weighed q z) (sym f.0))

pub returns-in-Ok-End : goal.returns-in-Ok-End
returns-in-Ok-End c =
    let a = c.args in
    let s = a.scene.now in
    let z = session_at a.head a.levels.now a.bindings.now in
    let p = plan_of (decode a.table.now) s z in
    let e = c.plan_event.ensures in
    let f = end_as a.table.now a.index.now s z _ _ _ _ p c.plan_event.result e.0 _ _ _ c.in-Ok-End.is c.in-Ok-End.field-0-is in
    weighed_turn a.table.now s _ z e.1 p e.2 _ (c.weigh_end.ensures (decode a.table.now) s a.bindings.now _ ∙ ap (λ (q : Plan). weighed q z) (sym f.0))

pub returns-in-Ok-Awaited : goal.returns-in-Ok-Awaited
returns-in-Ok-Awaited c =
    let a = c.args in
    let s = a.scene.now in
    let z = session_at a.head a.levels.now a.bindings.now in
    let p = plan_of (decode a.table.now) s z in
    let e = c.plan_event.ensures in
    let f = awaited_as a.table.now a.index.now s z _ _ _ _ p c.plan_event.result e.0 _ _ c.in-Ok-Awaited.is c.in-Ok-Awaited.field-0-is in
    weighed_turn a.table.now s _ z e.1 p e.2 _ (c.weigh_end-in-Ok-Awaited.ensures (decode a.table.now) s a.bindings.now _ ∙ ap (λ (q : Plan). weighed q z) (sym f.0))

pub returns-in-Ok-Finished : goal.returns-in-Ok-Finished
returns-in-Ok-Finished c =
    let a = c.args in
    let s = a.scene.now in
    let z = session_at a.head a.levels.now a.bindings.now in
    let p = plan_of (decode a.table.now) s z in
    let e = c.plan_event.ensures in
    let f = finished_as a.table.now a.index.now s z _ _ _ _ p c.plan_event.result e.0 c.in-Ok-Finished.is c.in-Ok-Finished.field-0-is in
    weighed_turn a.table.now s _ z e.1 p e.2 _ (stop_weighed a.head a.levels.now a.bindings.now [] c.stop.result 9 (length s) c.stop.ensures (λ x. absurd (omega arith)) p (ap (λ (q : Plan). weighed q z) f))

pub returns-in-Err : goal.returns-in-Err
returns-in-Err c =
    let a = c.args in
    let s = a.scene.now in
    let z = session_at a.head a.levels.now a.bindings.now in
    let p = plan_of (decode a.table.now) s z in
    let e = c.plan_event.ensures in
    let f = refused_as a.table.now a.index.now s z _ _ _ _ p c.plan_event.result e.0 _ c.in-Err.is in
    weighed_turn a.table.now s _ z e.1 p e.2 _ (stop_weighed a.head a.levels.now a.bindings.now [] c.stop-in-Err.result _ _ c.stop-in-Err.ensures f.1 p (ap (λ (q : Plan). weighed q z) f.0))
