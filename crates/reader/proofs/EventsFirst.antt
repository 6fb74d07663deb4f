-- A scene's events are the first of those of a longer one; the states between them.
--     history_first, events_first                  the events, when more bytes come
--     state_after, state_held, state_more           the state behind so many events
--     state_at, event_at                           the k-th event is the next of the state behind k
--     state_rest, state_ends, events_end           what is left behind k events; how reading ends
use Prim.Native.Nat.{ℕ, zero, suc, ◌+◌, ◌≤◌, ◌<◌}
use mathlib.Core.Path.{◌≡◌, refl, sym, ap, subst, ◌∙◌}
use mathlib.Core.List.{List, ◌∷◌, ◌++◌}
use mathlib.Core.Option.{Option, none, some}
use native.Mathlib.Numerals.{add-one}
use native.Mathlib.Omega.{arith}
use lib.ListN.{length, take, drop, get_or, length-append}
use lib.Seq.{take_at}
use Rattle.reader.specs.Events.{Event, ReaderState, fresh_reader, Next, event, refusal, finished, next, event_then, events_from, events, last_then, last_of}
use Rattle.reader.specs.Held.{Held}
use Rattle.reader.proofs.Held.{held_fresh, held_next}
use Rattle.reader.proofs.NextStable.{next_stable}
use Rattle.reader.proofs.Progress.{fuel_of, history, history_next, events_are, ending, ending_next, last_is}

-- ---- the events
first_from : (s t : List ℕ) (n m : ℕ) (z : ReaderState) → Held s z → n ≤ m → (r : List Event) × (events_from m (s ++ t) z ≡ events_from n s z ++ r)
unfolding events_from
first_from s t zero m z h le = (events_from m (s ++ t) z, refl)
first_from s t (suc n) zero z h le = absurd (omega arith)
first_from s t (suc n) (suc m) z h le = by (next s z) refl (λ z' k. first_from s t n m z' k (omega arith))
  where
    More : Next → Type 0
    More x = (r : List Event) × (events_from (suc m) (s ++ t) z ≡ event_then (λ (z' : ReaderState). events_from n s z') x ++ r)

    by : (x : Next) → next s z ≡ x → ((z' : ReaderState) → Held s z' → (r : List Event) × (events_from m (s ++ t) z' ≡ events_from n s z' ++ r)) → More x
    by (event e z') q ih =
        let k = ih z' (held_next s z h e z' q) in
        (k.0, rw (next_stable s t z h e z' q) (ap (λ (l : List Event). e ∷ l) k.1))
    by (refusal j p) q ih = (events_from (suc m) (s ++ t) z, refl)
    by (finished p) q ih = (events_from (suc m) (s ++ t) z, refl)

pub history_first : (s t : List ℕ) (z : ReaderState) → Held s z → take (length (history s z)) (history (s ++ t) z) ≡ history s z
unfolding history
history_first s t z h =
    let k = first_from s t (fuel_of s z) (fuel_of (s ++ t) z) z h (omega (arith, length-append s t)) in
    rw k.1 (take_at (events_from (fuel_of s z) s z) k.0 _ refl)

pub events_first : (s t : List ℕ) → take (length (events s)) (events (s ++ t)) ≡ events s
events_first s t = rw (events_are s, events_are (s ++ t)) (history_first s t fresh_reader (held_fresh s))

-- ---- the state behind so many events, from a state on; none where there are fewer
abbrev pub state_then : (ReaderState → Option ReaderState) → Next → Option ReaderState
state_then more (event e z) = more z
state_then more (refusal n p) = none
state_then more (finished p) = none

unfoldable pub state_after : ℕ → List ℕ → ReaderState → Option ReaderState
state_after zero s z = some z
state_after (suc k) s z = state_then (λ (z' : ReaderState). state_after k s z') (next s z)

-- what holds of a state behind k events, if it holds of the state itself behind none, and goes on from the state behind an event
reached : (P : ℕ → ReaderState → Type 0) (s : List ℕ) (w : ReaderState) → P 0 w → ((k : ℕ) (e : Event) (z z' : ReaderState) → next s z ≡ event e z' → P k z' → P (suc k) z) → (k : ℕ) (z : ReaderState) → state_after k s z ≡ some w → P k z
unfolding state_after
reached P s w base more zero z e =
    let q : w ≡ z = cc in
    subst (P 0) q base
reached P s w base more (suc k) z e = by (next s z) refl e (λ z'. reached P s w base more k z')
  where
    by : (x : Next) → next s z ≡ x → state_then (λ (z' : ReaderState). state_after k s z') x ≡ some w → ((z' : ReaderState) → state_after k s z' ≡ some w → P k z') → P (suc k) z
    by (event v z') q r ih = more k v z z' q (ih z' r)
    by (refusal n p) q r ih = let y : ◌≡◌ {A = ℕ} 0 1 = cc in absurd (omega arith)
    by (finished p) q r ih = let y : ◌≡◌ {A = ℕ} 0 1 = cc in absurd (omega arith)

module _ (s : List ℕ) (w : ReaderState) (k : ℕ) (z : ReaderState) (e : state_after k s z ≡ some w) where
  pub state_held : Held s z → Held s w
  state_held = reached (λ (i : ℕ) (x : ReaderState). Held s x → Held s w) s w (λ h. h) (λ i v x x' q ih h. ih (held_next s x h v x' q)) k z e

  pub state_more : (t : List ℕ) → Held s z → state_after k (s ++ t) z ≡ some w
  unfolding state_after
  state_more t =
      reached (λ (i : ℕ) (x : ReaderState). Held s x → state_after i (s ++ t) x ≡ some w) s w (λ h. refl) (λ i v x x' q ih h. rw (next_stable s t x h v x' q) (ih (held_next s x h v x' q))) k z e

-- the events behind a state whose next is known
history_is : (s : List ℕ) (z : ReaderState) (x : Next) → next s z ≡ x → history s z ≡ event_then (λ (z' : ReaderState). history s z') x
history_is s z x q = history_next s z ∙ ap (event_then (λ (z' : ReaderState). history s z')) q

pub ending_is : (s : List ℕ) (z : ReaderState) (x : Next) → next s z ≡ x → ending s z ≡ last_then (λ (z' : ReaderState). ending s z') x
ending_is s z x q = ending_next s z ∙ ap (last_then (λ (z' : ReaderState). ending s z')) q

-- what is left behind k events
pub record Left (s : List ℕ) (z : ReaderState) (k : ℕ) (w : ReaderState) : Type 0 where
  pub events : drop k (history s z) ≡ history s w
  pub count : length (history s z) ≡ k + length (history s w)
  pub ends : ending s z ≡ ending s w

pub state_rest : (s : List ℕ) (w : ReaderState) (k : ℕ) (z : ReaderState) → state_after k s z ≡ some w → Left s z k w
state_rest s w =
    reached (λ (i : ℕ) (x : ReaderState). Left s x i w) s w (record { events = refl; count = omega arith; ends = refl }) (λ i v x x' q ih.
    let h : history s x ≡ v ∷ history s x' = history_is s x (event v x') q in
    record { events = rw h ih.events; count = rw h (omega (arith, ih.count)); ends = ending_is s x (event v x') q ∙ ih.ends })

-- ---- the k-th event
pub record Step (s : List ℕ) (z : ReaderState) (k : ℕ) (e : Event) : Type 0 where
  pub before : ReaderState
  pub after : ReaderState
  pub reached : state_after k s z ≡ some before
  pub told : next s before ≡ event e after
  pub passed : state_after (k + 1) s z ≡ some after

pub state_at : (s : List ℕ) (d : Event) (k : ℕ) (z : ReaderState) → k < length (history s z) → Step s z k (get_or (history s z) k d)
unfolding state_after
state_at s d zero z lt = by (next s z) refl
  where
    by : (x : Next) → next s z ≡ x → Step s z 0 (get_or (history s z) 0 d)
    by (event e z') q = rw (history_is s z (event e z') q) (record { before = z; after = z'; reached = refl; told = q; passed = rw q })
    by (refusal n p) q = absurd (omega (arith, ap length (history_is s z (refusal n p) q)))
    by (finished p) q = absurd (omega (arith, ap length (history_is s z (finished p) q)))
state_at s d (suc k) z lt = by (next s z) refl (λ z' l. state_at s d k z' l)
  where
    by : (x : Next) → next s z ≡ x → ((z' : ReaderState) → k < length (history s z') → Step s z' k (get_or (history s z') k d)) → Step s z (suc k) (get_or (history s z) (suc k) d)
    by (event e z') q ih =
        let h : history s z ≡ e ∷ history s z' = history_is s z (event e z') q in
        let r = ih z' (omega (arith, ap length h)) in
        rw h (record { before = r.before; after = r.after; reached = rw q r.reached; told = r.told; passed = rw (add-one (suc k), q) (rw add-one at r.passed) })
    by (refusal n p) q ih = absurd (omega (arith, ap length (history_is s z (refusal n p) q)))
    by (finished p) q ih = absurd (omega (arith, ap length (history_is s z (finished p) q)))

pub event_at : (s : List ℕ) (d : Event) (k : ℕ) → k < length (events s) → Step s fresh_reader k (get_or (events s) k d)
event_at s d k lt = rw (events_are s) (state_at s d k fresh_reader (rw (events_are s) at lt))

-- ---- how reading ends: behind the last event, with no other
pub record Last (s : List ℕ) (z : ReaderState) (k : ℕ) : Type 0 where
  pub state : ReaderState
  pub reached : state_after k s z ≡ some state
  pub ends : next s state ≡ ending s z

pub state_ends : (s : List ℕ) (k : ℕ) (z : ReaderState) → k ≡ length (history s z) → Last s z k
unfolding state_after
state_ends s zero z e = by (next s z) refl
  where
    by : (x : Next) → next s z ≡ x → Last s z 0
    by (event v z') q = absurd (omega (arith, ap length (history_is s z (event v z') q)))
    by (refusal n p) q = record { state = z; reached = refl; ends = q ∙ sym (ending_is s z (refusal n p) q) }
    by (finished p) q = record { state = z; reached = refl; ends = q ∙ sym (ending_is s z (finished p) q) }
state_ends s (suc k) z e = by (next s z) refl (λ z' l. state_ends s k z' l)
  where
    by : (x : Next) → next s z ≡ x → ((z' : ReaderState) → k ≡ length (history s z') → Last s z' k) → Last s z (suc k)
    by (event v z') q ih =
        let r = ih z' (omega (arith, ap length (history_is s z (event v z') q))) in
        record { state = r.state; reached = rw q r.reached; ends = r.ends ∙ sym (ending_is s z (event v z') q) }
    by (refusal n p) q ih = absurd (omega (arith, ap length (history_is s z (refusal n p) q)))
    by (finished p) q ih = absurd (omega (arith, ap length (history_is s z (finished p) q)))

pub events_end : (s : List ℕ) → (z : ReaderState) × (state_after (length (events s)) s fresh_reader ≡ some z) × (next s z ≡ last_of s)
events_end s =
    let r = state_ends s (length (events s)) fresh_reader (ap length (events_are s)) in
    (r.state, r.reached, r.ends ∙ sym (last_is s))
