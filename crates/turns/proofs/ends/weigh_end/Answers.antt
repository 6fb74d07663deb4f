-- `ends::weigh_end` meets its contract: the end's records counted, and one level less.
use Prim.Native.Nat.{ℕ, ◌-◌}
use mathlib.Core.Path.{sym, ap, ◌∙◌}
use mathlib.Core.Bool.{true}
use mathlib.Core.List.{List}
use lib.Dec.{eqb}
use Rattle.table.specs.Table.{Table}
use Rattle.reader.specs.declared.Span.{Span}
use Rattle.model.specs.Theory.{Record}
use Rattle.model.specs.Records.{Body, spaced}
use Rattle.strands.specs.Levels.{level_names, level_spaces, level_strands}
use Rattle.sessions.specs.Sessions.{class_in, uri_in, session_at, with_end}
use Rattle.sessions.specs.Turns.{inner_records, weighed_event}
use Rattle.sessions.specs.Session.{Session}
use Rattle.sessions.specs.declared.Head.{Head}
use Rattle.sessions.proofs.EventTurns.{written_end, closed_session}
use Rattle.turns.proofs.ends.weigh_end.Goals as goal

pub closed_head-requires : goal.closed_head-requires
closed_head-requires c = let p = c.requires in (p.0, p.1)

pub returns : goal.returns
returns c = λ (t : Table) (s bindings : List ℕ) (part : Span).
    let a = c.args in
    let p = c.requires in
    let z = session_at a.head a.levels.now bindings in
    let level = a.head.depth - 1 in
    let b = spaced 5 part (class_in z level) (uri_in z level) in
    c.count_turn.ensures b bindings
    ∙ ap (λ (h : Head). weighed_event (inner_records b true a.head a.levels.now) (session_at h a.levels.now bindings)) c.closed_head.ensures
    ∙ ap (λ (y : Session). weighed_event (inner_records b true a.head a.levels.now) y)
    (closed_session a.head a.place (level_names a.levels.now) bindings (level_spaces a.levels.now) (level_strands a.levels.now) p.0 p.1)
    ∙ ap (λ (rs : List (Record Body ℕ)). weighed_event rs (with_end z a.place (eqb a.head.depth 1))) (sym (written_end t s z p.0 part))
