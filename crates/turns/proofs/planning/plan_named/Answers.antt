-- `planning::plan_named` meets its contract: 4, or the end as it is planned.
use Prim.Native.Nat.{ℕ}
use mathlib.Core.List.{List}
use native.Mathlib.Omega.{arith}
use Rattle.table.specs.Table.{decode}
use Rattle.sessions.specs.Sessions.{session_at}
use Rattle.sessions.proofs.EventTurns.{span_small, unlike_named, alike_named}
use mathlib.Core.Bool.{not}
use mathlib.Core.Path.{ap}
use Rattle.turns.proofs.planning.plan_named.Goals as goal

pub returns-then-not-same_name : goal.returns-then-not-same_name
returns-then-not-same_name c = λ (table index own words schemas attributes bindings : List ℕ).
    let a = c.args in
    let whole = c.between-whole in
    let name = c.name_at in
    let same = c.same_name in
    (unlike_named (decode table) a.scene.now (session_at a.head a.levels.now bindings) c.requires.0.some_open a.at a.tag whole.result name.result same.result whole.ensures name.ensures same.ensures (ap not c.if-not-same_name.true), λ e. omega arith)

pub returns : goal.returns
returns c = λ (table index own words schemas attributes bindings : List ℕ).
    let a = c.args in
    let i = c.requires.0 in
    let whole = c.between-whole in
    let name = c.name_at in
    let same = c.same_name in
    let part = c.between in
    let small = span_small a.tag.name.part a.tag.name.end part.result c.requires.2 c.requires.1 part.ensures in (
      alike_named (decode table) a.scene.now (session_at a.head a.levels.now bindings) i.some_open a.at a.tag whole.result name.result same.result whole.ensures name.ensures same.ensures (ap not c.if-not-same_name.false) part.result part.ensures,
      i.some_open,
      small.0,
      small.1,
    )
