-- `steps::judged_step` meets its contract: what comes next, written.
use mathlib.Core.Path.{refl, sym, ap, ◌∙◌}
use native.Mathlib.Omega.{arith}
use lib.ListN.{length}
use Rattle.table.specs.Table.{decode}
use Rattle.sessions.specs.Sessions.{session_at}
use Rattle.sessions.specs.Stepping.{Plan, plan_of, planned}
use Rattle.sessions.specs.Turns.{step_in}
use Rattle.steps.proofs.PlanTurns.{start_as, text_as, end_as, awaited_as, finished_as, refused_as, start_roomy, text_needs, class_small, planned_turn, stop_planned}
use Rattle.steps.proofs.judged_step.Goals as goal

pub plan_event-requires : goal.plan_event-requires
plan_event-requires c = c.requires

pub open_level-requires : goal.open_level-requires
open_level-requires c =
    let a = c.args in
    let f = start_as a.table.now a.index.now a.scene.now (session_at a.head a.levels.now a.bindings.now) _ _ _ _ _ c.plan_event.result c.plan_event.ensures.0 _ _ _ c.in-Ok-Start.is c.in-Ok-Start.field-0-is in
    (start_roomy a.table.now a.index.now a.scene.now a.head a.levels.now a.bindings.now _ _ _ _ _ _ _ _ f, f.openable)

pub text_event-requires : goal.text_event-requires
text_event-requires c =
    let a = c.args in
    let f = text_as a.table.now a.index.now a.scene.now (session_at a.head a.levels.now a.bindings.now) _ _ _ _ _ c.plan_event.result c.plan_event.ensures.0 _ _ c.in-Ok-Text.is c.in-Ok-Text.field-0-is in
    let n = text_needs a.table.now a.index.now a.scene.now a.known.now a.head a.levels.now a.bindings.now c.requires f.1 in
    (n, f.2, f.3)

pub end_event-requires : goal.end_event-requires
end_event-requires c =
    let a = c.args in
    let f = end_as a.table.now a.index.now a.scene.now (session_at a.head a.levels.now a.bindings.now) _ _ _ _ _ c.plan_event.result c.plan_event.ensures.0 _ _ _ c.in-Ok-End.is c.in-Ok-End.field-0-is in
    let n = text_needs a.table.now a.index.now a.scene.now a.known.now a.head a.levels.now a.bindings.now c.requires f.1 in
    (n, class_small a.table.now a.index.now a.scene.now a.known.now a.head a.levels.now a.bindings.now c.requires f.1, f.2, f.3)

pub end_event-requires-in-Ok-Awaited : goal.end_event-requires-in-Ok-Awaited
end_event-requires-in-Ok-Awaited c =
    let a = c.args in
    let f = awaited_as a.table.now a.index.now a.scene.now (session_at a.head a.levels.now a.bindings.now) _ _ _ _ _ c.plan_event.result c.plan_event.ensures.0 _ _ c.in-Ok-Awaited.is c.in-Ok-Awaited.field-0-is in
    let n = text_needs a.table.now a.index.now a.scene.now a.known.now a.head a.levels.now a.bindings.now c.requires f.1 in
    (n, class_small a.table.now a.index.now a.scene.now a.known.now a.head a.levels.now a.bindings.now c.requires f.1, f.2, f.3)

pub returns-in-Ok-Start : goal.returns-in-Ok-Start
returns-in-Ok-Start c =
    let a = c.args in
    let s = a.scene.now in
    let z = session_at a.head a.levels.now a.bindings.now in
    let p = plan_of (decode a.table.now) s z in
    let e = c.plan_event.ensures in
    let f = start_as a.table.now a.index.now s z _ _ _ _ p c.plan_event.result e.0 _ _ _ c.in-Ok-Start.is c.in-Ok-Start.field-0-is in
    let l = c.open_level.new in record {
      fact = planned_turn a.table.now s _ z e.1 p e.2 a.out.now (step_in c.open_level.result l.levels l.bindings l.out) (c.open_level.ensures.by_index a.table.now s p c.requires.ready f);
      levels_unchanged = c.open_level.ensures.levels_unchanged;
    }

pub returns-in-Ok-Text : goal.returns-in-Ok-Text
returns-in-Ok-Text c =
    let a = c.args in
    let s = a.scene.now in
    let z = session_at a.head a.levels.now a.bindings.now in
    let p = plan_of (decode a.table.now) s z in
    let e = c.plan_event.ensures in
    let f = text_as a.table.now a.index.now s z _ _ _ _ p c.plan_event.result e.0 _ _ c.in-Ok-Text.is c.in-Ok-Text.field-0-is in record {
      fact = planned_turn a.table.now s _ z e.1 p e.2 a.out.now _ (c.text_event.ensures (decode a.table.now) s a.bindings.now ∙ ap (λ (q : Plan). planned q z a.out.now) (sym f.0));
      levels_unchanged = refl;
    }

pub returns-in-Ok-End : goal.returns-in-Ok-End
returns-in-Ok-End c =
    let a = c.args in
    let s = a.scene.now in
    let z = session_at a.head a.levels.now a.bindings.now in
    let p = plan_of (decode a.table.now) s z in
    let e = c.plan_event.ensures in
    let f = end_as a.table.now a.index.now s z _ _ _ _ p c.plan_event.result e.0 _ _ _ c.in-Ok-End.is c.in-Ok-End.field-0-is in record {
      fact = planned_turn a.table.now s _ z e.1 p e.2 a.out.now _ (c.end_event.ensures (decode a.table.now) s a.bindings.now ∙ ap (λ (q : Plan). planned q z a.out.now) (sym f.0));
      levels_unchanged = refl;
    }

pub returns-in-Ok-Awaited : goal.returns-in-Ok-Awaited
returns-in-Ok-Awaited c =
    let a = c.args in
    let s = a.scene.now in
    let z = session_at a.head a.levels.now a.bindings.now in
    let p = plan_of (decode a.table.now) s z in
    let e = c.plan_event.ensures in
    let f = awaited_as a.table.now a.index.now s z _ _ _ _ p c.plan_event.result e.0 _ _ c.in-Ok-Awaited.is c.in-Ok-Awaited.field-0-is in record {
      fact = planned_turn a.table.now s _ z e.1 p e.2 a.out.now _ (c.end_event-in-Ok-Awaited.ensures (decode a.table.now) s a.bindings.now ∙ ap (λ (q : Plan). planned q z a.out.now) (sym f.0));
      levels_unchanged = refl;
    }

pub returns-in-Ok-Finished : goal.returns-in-Ok-Finished
returns-in-Ok-Finished c =
    let a = c.args in
    let s = a.scene.now in
    let z = session_at a.head a.levels.now a.bindings.now in
    let p = plan_of (decode a.table.now) s z in
    let e = c.plan_event.ensures in
    let f = finished_as a.table.now a.index.now s z _ _ _ _ p c.plan_event.result e.0 c.in-Ok-Finished.is c.in-Ok-Finished.field-0-is in record {
      fact = planned_turn a.table.now s _ z e.1 p e.2 a.out.now _ (stop_planned a.head a.levels.now a.bindings.now a.out.now c.stop.result 9 (length s) c.stop.ensures (λ x. absurd (omega arith)) p (ap (λ (q : Plan). planned q z a.out.now) f));
      levels_unchanged = refl;
    }

pub returns-in-Err : goal.returns-in-Err
returns-in-Err c =
    let a = c.args in
    let s = a.scene.now in
    let z = session_at a.head a.levels.now a.bindings.now in
    let p = plan_of (decode a.table.now) s z in
    let e = c.plan_event.ensures in
    let f = refused_as a.table.now a.index.now s z _ _ _ _ p c.plan_event.result e.0 _ c.in-Err.is in record {
      fact = planned_turn a.table.now s _ z e.1 p e.2 a.out.now _ (stop_planned a.head a.levels.now a.bindings.now a.out.now c.stop-in-Err.result _ _ c.stop-in-Err.ensures f.1 p (ap (λ (q : Plan). planned q z a.out.now) f.0));
      levels_unchanged = refl;
    }
