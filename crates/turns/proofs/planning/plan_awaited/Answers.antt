-- `planning::plan_awaited` meets its contract: the end of a /> as it is planned.
use Prim.Native.Nat.{ℕ}
use mathlib.Core.Path.{sym, subst}
use mathlib.Core.List.{List}
use Rattle.table.specs.Table.{decode}
use Rattle.reader.specs.Held.{SpanHeld}
use Rattle.sessions.specs.Sessions.{session_at}
use Rattle.sessions.proofs.EventTurns.{part_small, awaited_part}
use Rattle.turns.proofs.planning.plan_awaited.Goals as goal

pub returns : goal.returns
returns c = λ (table index own words schemas attributes bindings : List ℕ).
    let a = c.args in
    let s = a.scene.now in
    let i = c.requires.0 in
    let name = c.name_at-name in
    let part = c.part_in in
    let small = part_small s name.result part.result i.short (subst (SpanHeld s) (sym name.ensures) i.name) part.ensures in
    (awaited_part (decode table) s (session_at a.head a.levels.now bindings) i.some_open c.requires.1 name.result part.result c.saturating_sub.result name.ensures part.ensures c.saturating_sub.ensures, i.some_open, small.0, small.1)
