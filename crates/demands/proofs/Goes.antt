-- What the reader's next event says of the open elements: outside the root only its start comes, and nothing behind its end.
--     Goes, next_goes, event_goes     what an event says of the state before and behind it
--     goes_on                         behind k events: the k-th is what comes next
use Rattle.std.specs.Prelude.{Ok, Err}
use Prim.Native.Nat.{ℕ, ◌+◌, ◌<◌}
use mathlib.Core.Path.{◌≡◌, refl, sym, ap, subst, ◌∙◌}
use mathlib.Core.List.{List, [], ◌∷◌, ◌++◌, tail}
use mathlib.Core.Bool.{Bool, true, false, not, ◌||◌}
use mathlib.Core.Option.{some}
use native.Mathlib.Numerals.{add-one}
use native.Mathlib.Omega.{arith}
use lib.ListN.{length, take, get_or}
use lib.Seq.{take-suc}
use Rattle.laws.specs.Lists.{same_list}
use Rattle.laws.proofs.Flags.{differ}
use Rattle.laws.proofs.Holds.{holds_cond}
use Rattle.lexer.specs.Values.{text_end}
use Rattle.lexer.specs.Tags.{TagRead, tag_at, end_tag_at}
use Rattle.lexer.specs.Begins.{begin_at}
use Rattle.lexer.specs.Reads.{Read, Tagged, Ended, BeginRead}
use Rattle.lexer.specs.declared.Begin.TheVariants as begin
use Rattle.lexer.proofs.BeginLaws.{BeginInside, begin_inside}
use Rattle.reader.specs.Spans.{bytes_of, whole_span}
use Rattle.reader.specs.Namespaces.{Meaning, refused, meant, meaning_of}
use Rattle.reader.specs.Events.{Event, start, text, end, Open, ReaderState, fresh_reader, bindings_of, Next, event, refusal, finished, is_nil, left, end_read, start_meant, start_read, text_read, read_at, next_by, next, event_then, events}
use Rattle.reader.proofs.Progress.{history, history_next, events_are}
use Rattle.reader.proofs.EventsFirst.{state_after, state_rest, event_at}

-- a start puts an element before the open ones, and outside the root none has closed; a text and an end come inside an element; an end takes the innermost
-- away, and closes the root where it leaves none open
abbrev pub Goes : ReaderState → Next → Type 0
Goes z (event (start e) z') = ((o : Open) × (z'.opened ≡ o ∷ z.opened)) × (z.opened ≡ [] → z.closed ≡ false)
Goes z (event (text w) z') = (z.opened ≡ [] → ⊥) × (z'.opened ≡ z.opened)
Goes z (event (end part at) z') = (z.opened ≡ [] → ⊥) × (z'.opened ≡ tail z.opened) × (z'.opened ≡ [] → z'.closed ≡ true)
Goes z (refusal n p) = Unit {0}
Goes z (finished p) = Unit {0}

some_open : (o : Open) (os : List Open) → o ∷ os ≡ [] → ⊥
some_open o os e = let y : ◌≡◌ {A = ℕ} 0 1 = cc in omega arith

module _ (s : List ℕ) (z : ReaderState) where
  text_goes : (at : ℕ) → (z.opened ≡ [] → ⊥) → (r : Read) → Goes z (text_read s z at r)
  text_goes at n (Err x) = tt
  text_goes at n (Ok j) = (n, refl)

  left_closed : (place : ℕ) (os : List Open) → os ≡ [] → (left place os).closed ≡ true
  left_closed place os e = rw e

  end_goes : (at : ℕ) → (os : List Open) → z.opened ≡ os → (r : Ended) → Goes z (end_read s at os r)
  end_goes at [] e r = tt
  end_goes at (o ∷ os) e (Err x) = tt
  end_goes at (o ∷ os) e (Ok t) =
      holds_cond (Goes z) (same_list (bytes_of s (whole_span t.name)) (bytes_of s o.name)) (λ q. (λ n. some_open o os (sym e ∙ n), ap tail (sym e), left_closed t.next os)) (λ q. tt)

  start_goes : (at : ℕ) → (z.opened ≡ [] → z.closed ≡ false) → (r : TagRead) (a : Tagged) → Goes z (start_read s at z.opened r a)
  start_goes at c r (Err x) = tt
  start_goes at c r (Ok t) = by (meaning_of s (bindings_of z.opened) t.name r.attrs)
    where
      by : (m : Meaning) → Goes z (start_meant at z.opened t m)
      by (refused n) = tt
      by (meant n as' own) = ((record { name = whole_span t.name; declarations = own }, refl), c)

  begun_goes : (inside : Bool) → (z.opened ≡ [] → inside ≡ false) → (b : BeginRead) → BeginInside s z.place inside z.closed b → Goes z (read_at s z b)
  begun_goes inside o (Err x) i = tt
  begun_goes inside o (Ok begin.Finished) i = tt
  begun_goes inside o (Ok (begin.Text at)) i = text_goes at (λ e. differ (sym i.3 ∙ o e)) (text_end s at)
  begun_goes inside o (Ok (begin.End at)) i = end_goes at z.opened refl (end_tag_at s (at + 2))
  begun_goes inside o (Ok (begin.Start at)) i =
      start_goes at (λ e. outside inside z.closed (o e) i.4) (tag_at s (at + 1)) (tag_at s (at + 1)).answer
    where
      outside : (a b : Bool) → a ≡ false → (a || not b) ≡ true → b ≡ false
      outside false false p q = refl
      outside false true p q = sym q
      outside true b p q = absurd (differ p)

  by_goes : (a : Bool) (os : List Open) → z.opened ≡ os → Goes z (next_by s z a os)
  by_goes true (o ∷ os) e = (λ n. some_open o os (sym e ∙ n), ap tail (sym e), left_closed z.place os)
  by_goes true [] e = begun_goes false (λ n. refl) (begin_at s z.place false z.closed) (begin_inside s z.place false z.closed)
  by_goes false os e =
      begun_goes (not (is_nil os)) (λ n. rw (sym e ∙ n)) (begin_at s z.place (not (is_nil os)) z.closed) (begin_inside s z.place (not (is_nil os)) z.closed)

  pub next_goes : Goes z (next s z)
  unfolding next
  next_goes = by_goes z.awaited z.opened refl

module _ (s : List ℕ) (z : ReaderState) (e : Event) (z' : ReaderState) (q : next s z ≡ event e z') where
  pub event_goes : Goes z (event e z')
  event_goes = subst (Goes z) q (next_goes s z)

  -- behind an event, where nothing is open, the root has closed
  pub then_closed : z'.opened ≡ [] → z'.closed ≡ true
  then_closed = by e event_goes
    where
      by : (e : Event) → Goes z (event e z') → z'.opened ≡ [] → z'.closed ≡ true
      by (start e) g n = absurd (some_open g.0.0 z.opened (sym g.0.1 ∙ n))
      by (text w) g n = absurd (g.0 (sym g.1 ∙ n))
      by (end part at) g n = g.2 n

  -- where nothing is open, an event is a start, and no root has closed
  pub not_closed : z.opened ≡ [] → z.closed ≡ false
  not_closed = by e event_goes
    where
      by : (e : Event) → Goes z (event e z') → z.opened ≡ [] → z.closed ≡ false
      by (start e) g n = g.1 n
      by (text w) g n = absurd (g.0 n)
      by (end part at) g n = absurd (g.0 n)

-- what comes next behind k events is the k-th
pub record Onward (s : List ℕ) (k : ℕ) (e : Event) (w : ReaderState) : Type 0 where
  pub inside : k < length (events s)
  pub state : state_after (k + 1) s fresh_reader ≡ some w
  pub events_on : take (k + 1) (events s) ≡ take k (events s) ++ (e ∷ [])

pub state_count : (s : List ℕ) (k : ℕ) (w : ReaderState) → state_after k s fresh_reader ≡ some w → length (events s) ≡ k + length (history s w)
state_count s k w q = ap length (events_are s) ∙ (state_rest s w k fresh_reader q).count

pub goes_on : (s : List ℕ) (k : ℕ) (w : ReaderState) (e : Event) (w' : ReaderState) → state_after k s fresh_reader ≡ some w → next s w ≡ event e w' → Onward s k e w'
goes_on s k w e w' q n =
    let more : history s w ≡ e ∷ history s w' = history_next s w ∙ ap (event_then (λ (z : ReaderState). history s z)) n in
    let lt : k < length (events s) = omega (arith, state_count s k w q, ap length more) in
    let r = event_at s e k lt in
    let before : r.before ≡ w = cc r.reached in
    let told : event (get_or (events s) k e) r.after ≡ event e w' = sym r.told ∙ ap (next s) before ∙ n in
    let same : get_or (events s) k e ≡ e = cc in
    let behind : r.after ≡ w' = cc in
    record {
      inside = lt;
      state = r.passed ∙ ap some behind;
      events_on = rw (add-one k) (take-suc (events s) k e lt ∙ ap (λ (x : Event). take k (events s) ++ (x ∷ [])) same);
    }
