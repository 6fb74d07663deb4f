-- `ends::weigh_text` meets its contract: the text's records counted, and the place behind it.
use Prim.Native.Nat.{ℕ}
use mathlib.Core.Path.{sym, ap, ◌∙◌}
use mathlib.Core.Bool.{false}
use mathlib.Core.List.{List}
use Rattle.table.specs.Table.{Table}
use Rattle.reader.specs.Spans.{between}
use Rattle.model.specs.Theory.{Record}
use Rattle.model.specs.Records.{Body, text_body}
use Rattle.sessions.specs.Sessions.{session_at, with_place}
use Rattle.sessions.specs.Turns.{inner_records, weighed_event}
use Rattle.sessions.specs.declared.Head.{Head}
use Rattle.sessions.proofs.EventTurns.{written_text}
use Rattle.turns.proofs.ends.weigh_text.Goals as goal

pub returns : goal.returns
returns c = λ (t : Table) (s bindings : List ℕ) (at : ℕ).
    let a = c.args in
    let z = session_at a.head a.levels.now bindings in
    let b = text_body (between at a.end) in
    c.count_turn.ensures b bindings
    ∙ ap (λ (h : Head). weighed_event (inner_records b false a.head a.levels.now) (session_at h a.levels.now bindings)) c.text_head.ensures
    ∙ ap (λ (rs : List (Record Body ℕ)). weighed_event rs (with_place z a.end)) (sym (written_text t s z c.requires.0 (between at a.end)))
