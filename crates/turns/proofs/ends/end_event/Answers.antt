-- `ends::end_event` meets its contract: 25, or the end's row along the strands and one level less.
use Prim.Native.Nat.{ℕ, ◌-◌, ◌/◌}
use mathlib.Core.Path.{sym, ap, ap₂, ◌∙◌}
use mathlib.Core.Bool.{true}
use mathlib.Core.List.{List}
use native.Mathlib.Omega.{arith}
use lib.Dec.{eqb}
use Rattle.table.specs.Table.{Table}
use Rattle.model.specs.Theory.{Record}
use Rattle.model.specs.Records.{Body}
use Rattle.records.specs.Rows.{body_of}
use Rattle.strands.specs.Levels.{level_names, level_spaces, level_strands}
use Rattle.sessions.specs.Sessions.{session_at, with_end}
use Rattle.sessions.specs.Stepping.{answered, event_step}
use Rattle.sessions.specs.Turns.{inner_records, closed_head, step_in}
use Rattle.sessions.specs.Session.{Session}
use Rattle.sessions.specs.declared.Head.{Head}
use Rattle.sessions.specs.declared.Turn.{Turn}
use Rattle.sessions.proofs.EventTurns.{written_end, end_body, closed_session}
use Rattle.turns.proofs.ends.end_event.Goals as goal

pub end_row-row-requires : goal.end_row-row-requires
end_row-row-requires c = let p = c.requires in (omega (arith, p.0.0, p.0.1), p.1, p.2, p.3)

pub write_rows-requires : goal.write_rows-requires
write_rows-requires c = c.requires.0

pub returns-in_default : goal.returns-in_default
returns-in_default c = λ (t : Table) (s bindings : List ℕ).
    let a = c.args in
    let p = c.requires in
    let z = session_at a.head a.levels.now bindings in
    let level = a.head.depth - 1 in
    let next = with_end z a.place (eqb a.head.depth 1) in
    ap (λ (r : Turn). step_in r a.levels.now bindings c.write_rows.new.out) c.stop.ensures
    ∙ c.in_default.ensures a.at next z
    ∙ ap (λ (b : Body). event_step a.at (inner_records b true a.head a.levels.now) next z a.out.now)
    (ap body_of c.end_row-row.ensures ∙ end_body a.part (level_spaces a.levels.now) level p.1 p.2 p.3)
    ∙ ap (λ (rs : List (Record Body ℕ)). event_step a.at rs next z a.out.now) (sym (written_end t s z p.0.0 a.part))

pub closed_head-requires : goal.closed_head-requires
closed_head-requires c = let p = c.requires in (p.0.0, p.0.1)

pub returns : goal.returns
returns c = λ (t : Table) (s bindings : List ℕ).
    let a = c.args in
    let p = c.requires in
    let z = session_at a.head a.levels.now bindings in
    let level = a.head.depth - 1 in
    let next = session_at (closed_head a.head a.place (level_names a.levels.now)) a.levels.now bindings in
    ap (λ (h : Head). record { answer = answered 0 a.place 1 (c.in-Some.used / 16); session = session_at h a.levels.now bindings; output = c.write_rows.new.out }) c.closed_head.ensures
    ∙ c.in-Some.ensures a.at next z
    ∙ ap₂ (λ (b : Body) (y : Session). event_step a.at (inner_records b true a.head a.levels.now) y z a.out.now)
    (ap body_of c.end_row-row.ensures ∙ end_body a.part (level_spaces a.levels.now) level p.1 p.2 p.3)
    (closed_session a.head a.place (level_names a.levels.now) bindings (level_spaces a.levels.now) (level_strands a.levels.now) p.0.0 p.0.1)
    ∙ ap (λ (rs : List (Record Body ℕ)). event_step a.at rs (with_end z a.place (eqb a.head.depth 1)) z a.out.now) (sym (written_end t s z p.0.0 a.part))
