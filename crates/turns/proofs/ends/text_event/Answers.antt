-- `ends::text_event` meets its contract: 25, or the text's row along the strands and the place behind it.
use Prim.Native.Nat.{ℕ, ◌/◌}
use mathlib.Core.Path.{sym, ap, ◌∙◌}
use mathlib.Core.Bool.{false}
use mathlib.Core.List.{List}
use Rattle.table.specs.Table.{Table}
use Rattle.reader.specs.Spans.{between}
use Rattle.model.specs.Theory.{Record}
use Rattle.model.specs.Records.{Body}
use Rattle.records.specs.Rows.{body_of}
use Rattle.records.specs.declared.Row.{Row}
use Rattle.sessions.specs.Sessions.{session_at, with_place}
use Rattle.sessions.specs.Stepping.{answered, event_step}
use Rattle.sessions.specs.Turns.{inner_records, step_in}
use Rattle.sessions.specs.declared.Head.{Head}
use Rattle.sessions.specs.declared.Turn.{Turn}
use Rattle.sessions.proofs.EventTurns.{written_text}
use Rattle.turns.proofs.ends.text_event.Goals as goal

pub write_rows-requires : goal.write_rows-requires
write_rows-requires c = c.requires.0

pub returns-in_default : goal.returns-in_default
returns-in_default c = λ (t : Table) (s bindings : List ℕ).
    let a = c.args in
    let z = session_at a.head a.levels.now bindings in
    ap (λ (r : Turn). step_in r a.levels.now bindings c.write_rows.new.out) c.stop.ensures
    ∙ c.in_default.ensures a.at (with_place z a.end) z
    ∙ ap (λ (r : Row). event_step a.at (inner_records (body_of r) false a.head a.levels.now) (with_place z a.end) z a.out.now) c.text_row-row.ensures
    ∙ ap (λ (rs : List (Record Body ℕ)). event_step a.at rs (with_place z a.end) z a.out.now) (sym (written_text t s z c.requires.0.0 (between a.at a.end)))

pub returns : goal.returns
returns c = λ (t : Table) (s bindings : List ℕ).
    let a = c.args in
    let z = session_at a.head a.levels.now bindings in
    ap (λ (h : Head). record { answer = answered 0 a.end 1 (c.in-Some.used / 16); session = session_at h a.levels.now bindings; output = c.write_rows.new.out }) c.text_head.ensures
    ∙ c.in-Some.ensures a.at (with_place z a.end) z
    ∙ ap (λ (r : Row). event_step a.at (inner_records (body_of r) false a.head a.levels.now) (with_place z a.end) z a.out.now) c.text_row-row.ensures
    ∙ ap (λ (rs : List (Record Body ℕ)). event_step a.at rs (with_place z a.end) z a.out.now) (sym (written_text t s z c.requires.0.0 (between a.at a.end)))
