-- An event of the innermost level without an output: its records counted, and the session behind it.
use Prim.Native.Nat.{ℕ}
use mathlib.Core.Path.{◌≡◌, sym, ap, ◌∙◌}
use mathlib.Core.List.{List, []}
use mathlib.Core.Bool.{Bool}
use lib.ListN.{length}
use Rattle.laws.specs.Gather.{gather, total}
use Rattle.model.specs.Theory.{Record}
use Rattle.model.specs.Records.{Body}
use Rattle.strands.specs.Packed.{words_at}
use Rattle.strands.specs.Writing.{event_records, event_count}
use Rattle.strands.proofs.Delivered.{events_length}
use Rattle.sessions.specs.Stepping.{Step, answered}
use Rattle.sessions.specs.Turns.{weighed_event}
use Rattle.sessions.specs.Session.{Session}

module _ (b : Body) (closes : Bool) (strands : List ℕ) (level n count : ℕ) (rs : List (Record Body ℕ)) (w : rs ≡ gather (event_records b closes) (words_at strands level count)) (e : n ≡ count) where
  pub event_weighed : (next' : Session) (k : ℕ) → k ≡ total (event_count closes) (words_at strands level n)
      → ◌≡◌ {A = Step} (record { answer = answered 0 next'.place 1 k; session = next'; output = [] }) (weighed_event rs next')
  event_weighed next' k h =
      let counted : k ≡ length rs =
      h ∙ sym (events_length b closes (words_at strands level n)) ∙ ap (λ (m : ℕ). length (gather (event_records b closes) (words_at strands level m))) e ∙ sym (ap length w) in
      ap (λ (m : ℕ). record { answer = answered 0 next'.place 1 m; session = next'; output = [] }) counted
