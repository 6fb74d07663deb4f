-- `steps::plan_event` meets its contract: an end that is awaited, or what begins at the place.
use Prim.Native.Nat.{◌+◌}
use mathlib.Core.Path.{refl, ap, ◌∙◌}
use Rattle.std.specs.Prelude.{Ok, Err}
use Rattle.table.specs.Table.{decode, header_of}
use Rattle.lexer.specs.Tags.{end_tag_at}
use Rattle.lexer.specs.Values.{text_end}
use Rattle.lexer.specs.declared.Begin.TheVariants as begin
use Rattle.strands.specs.Levels.{level_names, level_spaces, level_strands}
use Rattle.sessions.specs.Sessions.{session_at}
use Rattle.sessions.specs.declared.Planned.TheVariants as planned
use Rattle.sessions.proofs.EventTurns.{stopped_planned}
use Rattle.starts.proofs.Besides.{text_beside, end_beside, awaited_beside}
use Rattle.starts.proofs.StartTurns.{innermost, awaited_innermost, start_begins, end_begins, text_begins}
use Rattle.steps.proofs.PlanTurns.{begun_planned}
use Rattle.steps.proofs.plan_event.Goals as goal

pub plan_awaited-requires : goal.plan_awaited-requires
plan_awaited-requires c =
    let a = c.args in
    let i = awaited_innermost a.table.now (header_of a.table.now) a.index.now a.scene.now a.head (level_names a.levels.now) a.bindings.now (level_spaces a.levels.now) (level_strands a.levels.now) c.requires.ready c.if-head.true in
    (i, c.if-head.true)

pub returns-then-head : goal.returns-then-head
returns-then-head c =
    let a = c.args in
    let h = c.requires in
    let s = a.scene.now in
    let z = session_at a.head a.levels.now a.bindings.now in
    let i = awaited_innermost a.table.now (header_of a.table.now) a.index.now s a.head (level_names a.levels.now) a.bindings.now (level_spaces a.levels.now) (level_strands a.levels.now) h.ready c.if-head.true in (
      c.plan_awaited.ensures a.table.now a.index.now a.scratch.now.own a.scratch.now.words a.scratch.now.schemas a.scratch.now.attributes a.bindings.now,
      h.beside,
      awaited_beside (decode a.table.now) a.table.now s a.known.now z h.beside i.some_open c.if-head.true,
    )

pub plan_start-requires : goal.plan_start-requires
plan_start-requires c =
    let a = c.args in
    (c.requires, start_begins a.scene.now a.head c.begin_at.result c.begin_at.ensures _ (c.in-Ok-Start.is ∙ ap Ok c.in-Ok-Start.field-0-is))

pub plan_end-requires : goal.plan_end-requires
plan_end-requires c =
    let a = c.args in
    let k = end_begins a.scene.now a.head c.begin_at.result c.begin_at.ensures _ (c.in-Ok-End.is ∙ ap Ok c.in-Ok-End.field-0-is) in
    (innermost a.table.now (header_of a.table.now) a.index.now a.scene.now a.head (level_names a.levels.now) a.bindings.now (level_spaces a.levels.now) (level_strands a.levels.now) c.requires.ready k.0, k.1)

pub plan_text-requires : goal.plan_text-requires
plan_text-requires c =
    let a = c.args in
    (c.requires.ready.short, (text_begins a.scene.now a.head c.begin_at.result c.begin_at.ensures _ (c.in-Ok-Text.is ∙ ap Ok c.in-Ok-Text.field-0-is)).1)

pub returns-in-Ok-Start : goal.returns-in-Ok-Start
returns-in-Ok-Start c =
    let a = c.args in
    let s = a.scene.now in
    let e = c.plan_start.ensures in
    begun_planned a.table.now a.index.now s a.head a.levels.now a.bindings.now c.if-head.false (Ok (begin.Start _)) c.begin_at.result c.begin_at.ensures (c.in-Ok-Start.is ∙ ap Ok c.in-Ok-Start.field-0-is) _ _ _ _ _ c.plan_start.result e.0 e.1 e.2

pub returns-in-Ok-End : goal.returns-in-Ok-End
returns-in-Ok-End c =
    let a = c.args in
    let s = a.scene.now in
    let z = session_at a.head a.levels.now a.bindings.now in
    begun_planned a.table.now a.index.now s a.head a.levels.now a.bindings.now c.if-head.false (Ok (begin.End _)) c.begin_at.result c.begin_at.ensures (c.in-Ok-End.is ∙ ap Ok c.in-Ok-End.field-0-is) a.known.now a.scratch.now.own a.scratch.now.words a.scratch.now.schemas a.scratch.now.attributes c.plan_end.result
    (c.plan_end.ensures a.table.now a.index.now a.scratch.now.own a.scratch.now.words a.scratch.now.schemas a.scratch.now.attributes a.bindings.now)
    c.requires.beside (end_beside (decode a.table.now) a.table.now s a.known.now z c.requires.beside _ (end_tag_at s (_ + 2)))

pub returns-in-Ok-Text : goal.returns-in-Ok-Text
returns-in-Ok-Text c =
    let a = c.args in
    let s = a.scene.now in
    let z = session_at a.head a.levels.now a.bindings.now in
    let k = text_begins a.scene.now a.head c.begin_at.result c.begin_at.ensures _ (c.in-Ok-Text.is ∙ ap Ok c.in-Ok-Text.field-0-is) in
    begun_planned a.table.now a.index.now s a.head a.levels.now a.bindings.now c.if-head.false (Ok (begin.Text _)) c.begin_at.result c.begin_at.ensures (c.in-Ok-Text.is ∙ ap Ok c.in-Ok-Text.field-0-is) a.known.now a.scratch.now.own a.scratch.now.words a.scratch.now.schemas a.scratch.now.attributes c.plan_text.result
    (c.plan_text.ensures a.table.now a.index.now a.scratch.now.own a.scratch.now.words a.scratch.now.schemas a.scratch.now.attributes z k.0)
    c.requires.beside (text_beside (decode a.table.now) a.table.now s a.known.now z c.requires.beside _ (text_end s _))

pub returns-in-Ok-Finished : goal.returns-in-Ok-Finished
returns-in-Ok-Finished c =
    let a = c.args in
    let s = a.scene.now in
    begun_planned a.table.now a.index.now s a.head a.levels.now a.bindings.now c.if-head.false (Ok begin.Finished) c.begin_at.result c.begin_at.ensures (c.in-Ok-Finished.is ∙ ap Ok c.in-Ok-Finished.field-0-is) a.known.now a.scratch.now.own a.scratch.now.words a.scratch.now.schemas a.scratch.now.attributes (Ok planned.Finished) refl c.requires.beside c.requires.beside

pub returns-in-Err : goal.returns-in-Err
returns-in-Err c =
    let a = c.args in
    let s = a.scene.now in
    let z = session_at a.head a.levels.now a.bindings.now in
    begun_planned a.table.now a.index.now s a.head a.levels.now a.bindings.now c.if-head.false (Err c.in-Err.x) c.begin_at.result c.begin_at.ensures c.in-Err.is a.known.now a.scratch.now.own a.scratch.now.words a.scratch.now.schemas a.scratch.now.attributes (Err c.stopped.result)
    (stopped_planned a.table.now a.index.now s z a.scratch.now.own a.scratch.now.words a.scratch.now.schemas a.scratch.now.attributes c.stopped.result _ c.in-Err.x c.stopped.ensures refl)
    c.requires.beside c.requires.beside
