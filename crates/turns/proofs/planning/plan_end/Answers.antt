-- `planning::plan_end` meets its contract: the open name and a > stand there, or by what reading the tag answers.
use Prim.Native.Nat.{ℕ, ◌+◌}
use mathlib.Core.Path.{sym, ap, subst, ◌∙◌}
use mathlib.Core.List.{List}
use native.Mathlib.Omega.{arith}
use Rattle.std.specs.Prelude.{Err}
use Rattle.table.specs.Table.{decode}
use Rattle.reader.specs.declared.Span.{Span}
use Rattle.reader.specs.Spans.{span}
use Rattle.reader.specs.Held.{SpanHeld}
use Rattle.sessions.specs.Sessions.{session_at}
use Rattle.sessions.proofs.EventTurns.{tag_inside, part_small, closes_inside, stopped_plan, stopped_planned, end_planned, closing_plan}
use Rattle.turns.proofs.planning.plan_end.Goals as goal

pub closes-requires : goal.closes-requires
closes-requires c =
    let i = c.requires.0 in
    (i.short, c.requires.1, subst (SpanHeld c.args.scene.now) (sym c.name_at-open.ensures) i.name)

pub overflow_add-result-then-closes : goal.overflow_add-result-then-closes
overflow_add-result-then-closes c =
    let i = c.requires.0 in
    omega (arith, i.short, i.name, ap (λ (w : Span). w.len) c.name_at-open.ensures)

pub returns-then-closes : goal.returns-then-closes
returns-then-closes c = λ (table index own words schemas attributes bindings : List ℕ).
    let a = c.args in
    let s = a.scene.now in
    let i = c.requires.0 in
    let name = c.name_at-open in
    let closes = c.closes in
    let taken = c.if-closes.true in
    let part = c.part_in in
    let inside = closes_inside s (a.at + 2) name.result (sym closes.ensures ∙ taken) in
    let small = part_small s (span (a.at + 2) name.result.len) part.result i.short (omega (arith, inside)) part.ensures in
    (closing_plan (decode table) s (session_at a.head a.levels.now bindings) i.some_open a.at name.result part.result closes.result name.ensures i.whole closes.ensures taken part.ensures, i.some_open, small.0, small.1)

pub plan_named-requires : goal.plan_named-requires
plan_named-requires c =
    let a = c.args in
    let i = c.requires.0 in
    let r = c.end_tag in
    let t = tag_inside a.scene.now (a.at + 2) _ r.result r.ensures c.in-Ok.is in
    (i, omega (arith, i.short, t.0), omega (arith, i.short, t.1))

pub returns-in-Ok : goal.returns-in-Ok
returns-in-Ok c = λ (table index own words schemas attributes bindings : List ℕ).
    let a = c.args in
    let r = c.end_tag in
    end_planned table index a.scene.now (session_at a.head a.levels.now bindings) own words schemas attributes c.plan_named.result a.at r.result _ r.ensures c.in-Ok.is (c.plan_named.ensures table index own words schemas attributes bindings)

pub returns-in-Err : goal.returns-in-Err
returns-in-Err c = λ (table index own words schemas attributes bindings : List ℕ).
    let a = c.args in
    let s = a.scene.now in
    let z = session_at a.head a.levels.now bindings in
    let r = c.end_tag in
    end_planned table index s z own words schemas attributes (Err c.stopped.result) a.at r.result _ r.ensures c.in-Err.is (stopped_planned table index s z own words schemas attributes c.stopped.result _ c.in-Err.x c.stopped.ensures (stopped_plan (decode table) s z c.requires.0.some_open a.at c.in-Err.x))
