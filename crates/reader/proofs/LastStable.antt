-- How reading a scene ends stays when more bytes come, but for 1 and 9; the bytes before a refusal's place end too soon.
use Prim.Native.Nat.{ℕ}
use mathlib.Core.Path.{◌≡◌, refl, subst, ◌∙◌}
use mathlib.Core.List.{List, ◌++◌}
use mathlib.Core.Option.{some}
use mathlib.Core.Logic.{◌⊎◌}
use lib.ListN.{length, take, drop}
use Rattle.laws.proofs.Kept.{Kept}
use Rattle.reader.specs.Events.{ReaderState, fresh_reader, Next, event, refusal, finished, next, events, last_then, last_of}
use Rattle.reader.specs.Held.{Held}
use Rattle.reader.proofs.Held.{held_fresh}
use Rattle.reader.proofs.NextStable.{OpenNext, next_kept, Placed, next_placed, short}
use Rattle.reader.proofs.Progress.{Settled, ending, last_is, last_settled}
use Rattle.reader.proofs.EventsFirst.{state_after, state_held, state_more, state_rest, events_end, ending_is}

module _ (s : List ℕ) where
  -- the state behind the last event
  last_held : Held s (events_end s).0
  last_held = state_held s (events_end s).0 (length (events s)) fresh_reader (events_end s).1 (held_fresh s)

  pub last_placed : Placed (length s) (last_of s)
  last_placed = subst (Placed (length s)) (events_end s).2 (next_placed s (events_end s).0 last_held)

  pub last_kept : (t : List ℕ) → Kept OpenNext (last_of s) (last_of (s ++ t))
  last_kept t n =
      last_is (s ++ t) ∙ (state_rest (s ++ t) z (length (events s)) fresh_reader there).ends ∙ ending_is (s ++ t) z (last_of s) same ∙ last (last_of s) (last_settled s)
    where
      z : ReaderState
      z = (events_end s).0

      there : state_after (length (events s)) (s ++ t) fresh_reader ≡ some z
      there = state_more s z (length (events s)) fresh_reader (events_end s).1 t (held_fresh s)

      same : next (s ++ t) z ≡ last_of s
      same = next_kept s t z last_held (λ c. n (subst OpenNext (events_end s).2 c)) ∙ (events_end s).2

      last : (x : Next) → Settled s x → last_then (λ (z' : ReaderState). ending (s ++ t) z') x ≡ x
      last (event e z') k = absurd k
      last (refusal m p) k = refl
      last (finished p) k = refl

-- 2, 3, 4, 5 and 6
pub last_stable : (s t : List ℕ) (n p : ℕ) → last_of s ≡ refusal n p → (n ≡ 1 → ⊥) → last_of (s ++ t) ≡ refusal n p
last_stable s t n p q k = last_kept s t (λ c. k (subst OpenNext q c)) ∙ q

pub last_short : (s : List ℕ) (n p : ℕ) → last_of s ≡ refusal n p → (last_of (take p s) ≡ refusal 1 p) ⊎ (last_of (take p s) ≡ finished p)
last_short s n p q = short last_of s n p q (last_placed s) (last_placed (take p s)) (last_kept (take p s) (drop p s))
