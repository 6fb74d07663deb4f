-- The reader moves on: each event leaves less to read, so the fuel of a scene's events suffices.
--     next_moves, progress         what `next` says of places
--     history, enough              the events behind a state; more fuel gives no more
--     history_next, events_are     they go by `next`; a scene's events are those of a fresh reader
--     ending, ending_next, last_is, last_settled     the same of how reading ends, which is no event
use Rattle.std.specs.Prelude.{Ok, Err}
use Prim.Native.Nat.{ℕ, zero, suc, ◌+◌, ◌-◌, ◌*◌, ◌≤◌, ◌<◌}
use mathlib.Core.Path.{◌≡◌, refl, sym, ap, subst, ◌∙◌}
use mathlib.Core.Logic.{◌⊎◌, inl, inr, ⊎_elim}
use mathlib.Core.List.{List, [], ◌∷◌}
use mathlib.Core.Bool.{Bool, true, false, cond, not}
use native.Mathlib.Omega.{arith}
use lib.ListN.{length, get_or}
use Rattle.laws.specs.Lists.{same_list}
use Rattle.laws.specs.Reading.{le_or_lt}
use Rattle.laws.proofs.Holds.{holds_cond}
use Rattle.lexer.specs.Values.{text_end}
use Rattle.lexer.specs.Tags.{TagRead, tag_at, end_tag_at}
use Rattle.lexer.specs.Begins.{begin_at}
use Rattle.lexer.proofs.CharacterLaws.{Within}
use Rattle.lexer.proofs.ValueLaws.{ValueTo, value_inside}
use Rattle.lexer.proofs.Inside.{StopInside, TaggedInside, tag_inside, EndedInside, end_tag_inside}
use Rattle.lexer.proofs.BeginLaws.{BeginInside, begin_inside}
use Rattle.lexer.specs.declared.Stop.{Stop}
use Rattle.lexer.specs.declared.Stop.TheVariants as stop
use Rattle.lexer.specs.Reads.{Read, Tagged, Ended, BeginRead}
use Rattle.lexer.specs.declared.Attr.{Attr}
use Rattle.lexer.specs.declared.Tag.{Tag}
use Rattle.lexer.specs.declared.Begin.TheVariants as begin
use Rattle.reader.specs.Spans.{bytes_of, whole_span}
use Rattle.reader.specs.Namespaces.{Meaning, refused, meant, meaning_of}
use Rattle.reader.specs.Events.{Event, Open, ReaderState, fresh_reader, bindings_of, Next, event, refusal, finished, stopped, is_nil, end_read, start_meant, start_read, text_read, read_at, next_by, next, event_then, events_from, events, last_then, last_from, last_of}

-- the state behind an event: further on and inside the scene, or the end of a /> was awaited and is given
abbrev pub Onward : List ℕ → ReaderState → ReaderState → Type 0
Onward s z z' =
    ((z.place < z'.place) × (z'.place ≤ length s)) ⊎ ((z.awaited ≡ true) × (z'.awaited ≡ false) × (z'.place ≡ z.place))

-- a refusal's place is inside the scene or at its end, and not before the state's
abbrev pub Moved : List ℕ → ReaderState → Next → Type 0
Moved s z (event e z') = Onward s z z'
Moved s z (refusal n p) = (p ≤ length s) × (z.place ≤ length s → z.place ≤ p)
Moved s z (finished p) = p ≡ length s

module _ (s : List ℕ) (z : ReaderState) where
  stop_moves : (at : ℕ) → z.place ≤ at → (x : Stop) → StopInside s at x → Moved s z (stopped s x)
  stop_moves at le (stop.Bad j) i = (omega arith, λ h. omega arith)
  stop_moves at le (stop.Long j) i = (omega arith, λ h. omega arith)
  stop_moves at le stop.Cut i = (omega arith, λ h. h)

  -- a text ends at a <, and its first byte is none
  text_moves : (at : ℕ) → z.place ≤ at → (get_or s at 0 ≡ 0x3C → ⊥) → (r : Read) → Within (ValueTo s 0x3C at) s at r → Moved s z (text_read s z at r)
  text_moves at le n (Ok j) i =
      ⊎_elim (λ l. let q : at ≡ j = omega arith in absurd (n (ap (λ (k : ℕ). get_or s k 0) q ∙ i.2))) (λ l. inl (omega arith)) (le_or_lt j at)
  text_moves at le n (Err (stop.Bad j)) i = (omega arith, λ h. omega arith)
  text_moves at le n (Err (stop.Long j)) i = absurd i
  text_moves at le n (Err stop.Cut) i = (omega arith, λ h. h)

  -- a tag whose < stands at a place inside
  module _ (at : ℕ) (le : z.place ≤ at) (lt : at + 1 < length s) where
    end_moves : (os : List Open) (t : Ended) → EndedInside s (at + 2) t → Moved s z (end_read s at os t)
    end_moves [] t i = (omega arith, λ h. omega arith)
    end_moves (o ∷ os) (Err x) i = stop_moves (at + 2) (omega arith) x i
    end_moves (o ∷ os) (Ok t) i =
        holds_cond (Moved s z) (same_list (bytes_of s (whole_span t.name)) (bytes_of s o.name))
        (λ e. inl (omega arith))
        (λ e. (omega arith, λ h. omega arith))

    meant_moves : (os : List Open) (t : Tag) → at < t.next → t.next ≤ length s → (m : Meaning) → Moved s z (start_meant at os t m)
    meant_moves os t lo hi (refused n) = (omega arith, λ h. omega arith)
    meant_moves os t lo hi (meant n as' own) = inl (omega arith)

    start_moves : (os : List Open) (l : List Attr) (r : TagRead) (t : Tagged) → TaggedInside s (at + 1) l t → Moved s z (start_read s at os r t)
    start_moves os l r (Err x) i = stop_moves (at + 1) (omega arith) x i
    start_moves os l r (Ok t) i = meant_moves os t (omega arith) i.inside (meaning_of s (bindings_of os) t.name r.attrs)

  begun_moves : (inside closed : Bool) (b : BeginRead) → BeginInside s z.place inside closed b → Moved s z (read_at s z b)
  begun_moves inside closed (Err x) i = stop_moves z.place (omega arith) x i
  begun_moves inside closed (Ok begin.Finished) i = refl
  begun_moves inside closed (Ok (begin.Text at)) i = text_moves at (omega arith) i.2 (text_end s at) (value_inside s at 0x3C)
  begun_moves inside closed (Ok (begin.End at)) i = end_moves at i.0 i.1 z.opened (end_tag_at s (at + 2)) (end_tag_inside s (at + 2))
  begun_moves inside closed (Ok (begin.Start at)) i =
      start_moves at i.0 i.1 z.opened (tag_at s (at + 1)).attrs (tag_at s (at + 1)) (tag_at s (at + 1)).answer (tag_inside s (at + 1)).answer

  by_moves : (a : Bool) (os : List Open) → z.awaited ≡ a → Moved s z (next_by s z a os)
  by_moves true (o ∷ os) e = inr (e, refl, refl)
  by_moves true [] e = begun_moves false z.closed (begin_at s z.place false z.closed) (begin_inside s z.place false z.closed)
  by_moves false os e =
      begun_moves (not (is_nil os)) z.closed (begin_at s z.place (not (is_nil os)) z.closed) (begin_inside s z.place (not (is_nil os)) z.closed)

  pub next_moves : Moved s z (next s z)
  unfolding next
  next_moves = by_moves z.awaited z.opened refl

  pub onward : (z' : ReaderState) (e : Event) → next s z ≡ event e z' → Onward s z z'
  onward z' e q = subst (Moved s z) q next_moves

  pub progress : (z' : ReaderState) (e : Event) → next s z ≡ event e z' → z.place ≤ length s
      → (z'.place ≤ length s) × ((z.place < z'.place) ⊎ ((z.awaited ≡ true) × (z'.awaited ≡ false) × (z'.place ≡ z.place)))
  progress z' e q h = ⊎_elim (λ l. (l.1, inl l.0)) (λ a. (rw a.2 h, inr a)) (onward z' e q)

-- ---- the fuel suffices
-- at most so many events are left: two for each byte, and the end that is awaited
abbrev pub left_of : List ℕ → ReaderState → ℕ
left_of s z = 2 * (length s - z.place) + cond z.awaited 1 0

abbrev pub fuel_of : List ℕ → ReaderState → ℕ
fuel_of s z = 2 * (length s - z.place) + 2

cond_one : (t : Bool) → cond t 1 0 ≤ 1
cond_one true = omega arith
cond_one false = omega arith

pub less : (s : List ℕ) (z z' : ReaderState) → Onward s z z' → left_of s z' < left_of s z
less s z z' o = ⊎_elim (λ l. omega (arith, cond_one z'.awaited)) (λ a. rw (a.0, a.1, a.2) (omega arith)) o

-- F says something of a state with so much fuel, going by the next event and the state behind it
module _ {A : Type 0} (s : List ℕ) (F : ℕ → ReaderState → A) (T : (ReaderState → A) → Next → A)
    (step : (n : ℕ) (z : ReaderState) → F (suc n) z ≡ T (F n) (next s z))
    (same : (f g : ReaderState → A) (x : Next) → ((e : Event) (z' : ReaderState) → x ≡ event e z' → f z' ≡ g z') → T f x ≡ T g x) where
  fuel_same : (n m : ℕ) (z : ReaderState) → left_of s z < n → left_of s z < m → F n z ≡ F m z
  fuel_same zero m z a b = absurd (omega arith)
  fuel_same (suc n) zero z a b = absurd (omega arith)
  fuel_same (suc n) (suc m) z a b =
      step n z
      ∙ same (F n) (F m) (next s z) (λ e z' q.
      let o = onward s z z' e q in
      fuel_same n m z' (omega (arith, less s z z' o)) (omega (arith, less s z z' o)))
      ∙ sym (step m z)

  fuel_enough : (n : ℕ) (z : ReaderState) → fuel_of s z ≤ n → F n z ≡ F (fuel_of s z) z
  fuel_enough n z l = fuel_same n (fuel_of s z) z (omega (arith, cond_one z.awaited)) (omega (arith, cond_one z.awaited))

  fuel_next : (z : ReaderState) → F (fuel_of s z) z ≡ T (λ (z' : ReaderState). F (fuel_of s z') z') (next s z)
  fuel_next z =
      let k : ℕ = 2 * (length s - z.place) + 1 in
      let e : fuel_of s z ≡ suc k = omega arith in
      ap (λ (n : ℕ). F n z) e ∙ step k z ∙ same (F k) (λ (z' : ReaderState). F (fuel_of s z') z') (next s z) behind
    where
      behind : (e : Event) (z' : ReaderState) → next s z ≡ event e z' → F (2 * (length s - z.place) + 1) z' ≡ F (fuel_of s z') z'
      behind e z' q =
          let o = onward s z z' e q in
          fuel_same (2 * (length s - z.place) + 1) (fuel_of s z') z' (omega (arith, less s z z' o, cond_one z.awaited)) (omega (arith, cond_one z'.awaited))

-- ---- the events behind a state
unfoldable pub history : List ℕ → ReaderState → List Event
history s z = events_from (fuel_of s z) s z

then_same : (f g : ReaderState → List Event) (x : Next) → ((e : Event) (z' : ReaderState) → x ≡ event e z' → f z' ≡ g z') → event_then f x ≡ event_then g x
then_same f g (event e z') h = ap (λ (l : List Event). e ∷ l) (h e z' refl)
then_same f g (refusal n p) h = refl
then_same f g (finished p) h = refl

events_step : (s : List ℕ) (n : ℕ) (z : ReaderState) → events_from (suc n) s z ≡ event_then (λ (z' : ReaderState). events_from n s z') (next s z)
unfolding events_from
events_step s n z = refl

pub enough : (s : List ℕ) (n : ℕ) (z : ReaderState) → fuel_of s z ≤ n → events_from n s z ≡ history s z
unfolding history
enough s n z l = fuel_enough s (λ (n : ℕ) (z : ReaderState). events_from n s z) event_then (events_step s) then_same n z l

pub history_next : (s : List ℕ) (z : ReaderState) → history s z ≡ event_then (λ (z' : ReaderState). history s z') (next s z)
unfolding history
history_next s z = fuel_next s (λ (n : ℕ) (z : ReaderState). events_from n s z) event_then (events_step s) then_same z

pub events_are : (s : List ℕ) → events s ≡ history s fresh_reader
unfolding events
events_are s = enough s (2 * length s + 2) fresh_reader (omega arith)

-- ---- how reading ends behind a state
unfoldable pub ending : List ℕ → ReaderState → Next
ending s z = last_from (fuel_of s z) s z

last_same : (f g : ReaderState → Next) (x : Next) → ((e : Event) (z' : ReaderState) → x ≡ event e z' → f z' ≡ g z') → last_then f x ≡ last_then g x
last_same f g (event e z') h = h e z' refl
last_same f g (refusal n p) h = refl
last_same f g (finished p) h = refl

last_step : (s : List ℕ) (n : ℕ) (z : ReaderState) → last_from (suc n) s z ≡ last_then (λ (z' : ReaderState). last_from n s z') (next s z)
unfolding last_from
last_step s n z = refl

pub ending_next : (s : List ℕ) (z : ReaderState) → ending s z ≡ last_then (λ (z' : ReaderState). ending s z') (next s z)
unfolding ending
ending_next s z = fuel_next s (λ (n : ℕ) (z : ReaderState). last_from n s z) last_then (last_step s) last_same z

pub last_is : (s : List ℕ) → last_of s ≡ ending s fresh_reader
unfolding last_of ending
last_is s = fuel_enough s (λ (n : ℕ) (z : ReaderState). last_from n s z) last_then (last_step s) last_same (2 * length s + 2) fresh_reader (omega arith)

-- it is a refusal inside the scene or at its end, or 9 there: never an event that the fuel left
abbrev pub Settled : List ℕ → Next → Type 0
Settled s (event e z) = ⊥
Settled s (refusal n p) = p ≤ length s
Settled s (finished p) = p ≡ length s

pub settled : (s : List ℕ) (n : ℕ) (z : ReaderState) → left_of s z < n → Settled s (last_from n s z)
unfolding last_from
settled s zero z l = absurd (omega arith)
settled s (suc n) z l = by (next s z) (next_moves s z) (λ z' k. settled s n z' k)
  where
    by : (x : Next) → Moved s z x → ((z' : ReaderState) → left_of s z' < n → Settled s (last_from n s z')) → Settled s (last_then (λ (z' : ReaderState). last_from n s z') x)
    by (event e z') m ih = ih z' (omega (arith, less s z z' m))
    by (refusal k p) m ih = m.0
    by (finished p) m ih = m

pub last_settled : (s : List ℕ) → Settled s (last_of s)
unfolding last_of
last_settled s = settled s (2 * length s + 2) fresh_reader (omega arith)
