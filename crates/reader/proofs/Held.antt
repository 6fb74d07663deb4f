-- The reader's rules keep `Held`, and what they answer lies inside the scene: an event's spans, a refusal's number and place.
--     held_fresh, held_next, event_inside     an event and the state behind it
--     numbered, cut_at, finished_at           the other answers
use Rattle.std.specs.Prelude.{Ok, Err}
use Prim.Native.Nat.{ℕ, ◌+◌, ◌-◌, ◌≤◌, ◌<◌}
use mathlib.Core.Path.{◌≡◌, refl, sym, subst}
use mathlib.Core.List.{List, [], ◌∷◌}
use mathlib.Core.Bool.{Bool, true, false, not}
use mathlib.Core.Logic.{⊎_elim}
use native.Mathlib.Omega.{arith}
use lib.ListN.{length, drop, get_or, length-take, length-drop}
use Rattle.laws.specs.Reading.{le_or_lt}
use Rattle.laws.specs.Lists.{same_list}
use Rattle.laws.specs.Members.{All}
use Rattle.laws.proofs.Holds.{holds_cond}
use Rattle.laws.proofs.Elementwise.{each_map, each_append}
use Rattle.lexer.specs.Values.{text_end}
use Rattle.lexer.specs.Tags.{TagRead, tag_at, end_tag_at}
use Rattle.lexer.specs.Begins.{begin_at}
use Rattle.lexer.specs.declared.Stop.{Stop}
use Rattle.lexer.specs.declared.Stop.TheVariants.{Bad, Long, Cut}
use Rattle.lexer.specs.Reads.{Read, Tagged, Ended, BeginRead}
use Rattle.lexer.specs.declared.Begin.TheVariants as begin
use Rattle.lexer.proofs.ValueLaws.{ValueTo, value_inside}
use Rattle.lexer.proofs.Inside.{StopInside, ReadInside, within_read, TagInside, TaggedInside, TagReadInside, tag_inside, EndedInside, end_tag_inside}
use Rattle.lexer.proofs.WholeNames.{whole_name}
use Rattle.lexer.proofs.BeginLaws.{BeginInside, begin_inside}
use Rattle.reader.specs.Spans.{bytes_of, whole_span}
use Rattle.reader.specs.Namespaces.{Meaning, refused, meant, meaning_of}
use Rattle.reader.specs.Events.{Start, Event, start, text, end, Open, ReaderState, fresh_reader, bindings_of, Next, event, refusal, finished, stopped, part_of, is_nil, left, end_read, start_meant, start_read, text_read, read_at, next_by, next}
use Rattle.reader.specs.Held.{SpanHeld, BindingIn, BindingHeld, OpenHeld, Held}
use Rattle.reader.proofs.TagMeaning.{NamespaceHeld, AttributeHeld, MeaningHeld, meaning_held}
use Rattle.reader.proofs.ReadNames.{tag_named}
use Rattle.reader.proofs.Colons.{colon_in}

-- ---- what each answer says
-- a start: its name stands behind its <, and ends in its part
pub record StartHeld (s : List ℕ) (e : Start) : Type 0 where
  pub behind : e.at + 1 ≡ e.name.at
  pub inside : SpanHeld s e.name
  pub onward : e.name.at ≤ e.part.at
  pub last : e.part.at + e.part.len ≡ e.name.at + e.name.len
  pub namespace : NamespaceHeld s e.namespace
  pub attributes : All (AttributeHeld s) e.attributes

abbrev pub EventHeld : List ℕ → Event → Type 0
EventHeld s (start e) = StartHeld s e
EventHeld s (text w) = (0 < w.len) × SpanHeld s w × (text_end s w.at ≡ Ok (w.at + w.len))
EventHeld s (end w at) = (at < w.at) × SpanHeld s w

-- 1 at the scene's end, each other number inside the scene
pub record Refused (s : List ℕ) (z : ReaderState) (n p : ℕ) : Type 0 where
  pub some : 1 ≤ n
  pub few : n ≤ 6
  pub cut : n ≡ 1 → p ≡ length s
  pub inside : (n ≡ 1 → ⊥) → (z.place ≤ p) × (p < length s)

abbrev pub NextHeld : List ℕ → ReaderState → Next → Type 0
NextHeld s z (event e z') = EventHeld s e × Held s z'
NextHeld s z (refusal n p) = Refused s z n p
NextHeld s z (finished p) = (p ≡ length s) × (z.closed ≡ true)

never : {A : Type 0} → true ≡ false → A
never e = let z : ◌≡◌ {A = ℕ} 0 1 = cc in absurd (omega arith)

pub held_fresh : (s : List ℕ) → Held s fresh_reader
held_fresh s = record { place = omega arith; opened = tt; awaited = λ e. never (sym e); closed = λ e. refl }

pub bindings_in_lem : (s : List ℕ) (os : List Open) → All (OpenHeld s) os → All (BindingIn s) (bindings_of os)
unfolding bindings_of
bindings_in_lem s [] h = tt
bindings_in_lem s (o ∷ os) h =
    each_append (BindingIn s) (bindings_of os) o.declarations (bindings_in_lem s os h.1) (each_map (BindingHeld s) (BindingIn s) (λ b k. k.inside) o.declarations h.0.declarations)

-- ---- by what was read
module _ (s : List ℕ) (z : ReaderState) (h : Held s z) where
  refused_in : (n p : ℕ) → 2 ≤ n → n ≤ 6 → z.place ≤ p → p < length s → Refused s z n p
  refused_in n p lo hi le lt = record { some = omega arith; few = hi; cut = λ e. absurd (omega arith); inside = λ e. (le, lt) }

  stop_held : (at : ℕ) → z.place ≤ at → (x : Stop) → StopInside s at x → NextHeld s z (stopped s x)
  stop_held at le (Bad p) i = refused_in 2 p (omega arith) (omega arith) (omega arith) i.1
  stop_held at le (Long p) i = refused_in 3 p (omega arith) (omega arith) (omega arith) i.1
  stop_held at le Cut i = record { some = omega arith; few = omega arith; cut = λ e. refl; inside = λ n. absurd (n refl) }

  text_held : (at : ℕ) → z.place ≤ at → (get_or s at 0 ≡ 0x3C → ⊥) → (r : Read) → text_end s at ≡ r → ReadInside (ValueTo s 0x3C at) s at r → NextHeld s z (text_read s z at r)
  text_held at e n (Err x) q i = stop_held at (omega arith) x i
  text_held at e n (Ok j) q i =
      let lt : at < j = ⊎_elim (λ le. absurd (n (subst (λ (k : ℕ). get_or s k 0 ≡ 0x3C) (omega arith) i.2))) (λ k. k) (le_or_lt j at) in
      let stop : at + (j - at) ≡ j = omega arith in
      ((omega arith, omega arith, rw stop q), record { place = omega arith; opened = h.opened; awaited = λ f. never (sym f); closed = h.closed })

  -- the innermost element ends
  left_held : (place : ℕ) (o : Open) (os : List Open) → place ≤ length s → All (OpenHeld s) (o ∷ os) → Held s (left place os)
  left_held place o [] le k = record { place = le; opened = k.1; awaited = λ q. never (sym q); closed = λ q. refl }
  left_held place o (x ∷ os) le k = record { place = le; opened = k.1; awaited = λ q. never (sym q); closed = λ q. never (sym q) }

  end_held : (at : ℕ) → z.place ≤ at → at + 1 < length s → (os : List Open) → All (OpenHeld s) os → (r : Ended) → EndedInside s (at + 2) r → NextHeld s z (end_read s at os r)
  end_held at le lt [] k r i = refused_in 2 (at + 1) (omega arith) (omega arith) (omega arith) lt
  end_held at le lt (o ∷ os) k (Err x) i = stop_held (at + 2) (omega arith) x i
  end_held at le lt (o ∷ os) k (Ok t) i =
      let n = i.name in
      holds_cond (NextHeld s z) (same_list (bytes_of s (whole_span t.name)) (bytes_of s o.name))
      (λ e. (omega arith, left_held t.next o os i.inside k))
      (λ e. refused_in 4 at (omega arith) (omega arith) le (omega arith))

  start_held : (at : ℕ) → z.place ≤ at → at + 1 < length s → (r : TagRead) → TagReadInside s (at + 1) r → r ≡ tag_at s (at + 1) → (a : Tagged) → r.answer ≡ a → NextHeld s z (start_read s at z.opened r a)
  start_held at le lt r i q (Err x) e = stop_held (at + 1) (omega arith) x (subst (TaggedInside s (at + 1) r.attrs) e i.answer)
  start_held at le lt r i q (Ok t) e =
      meaning (meaning_of s (bindings_of z.opened) t.name r.attrs) (meaning_held s (bindings_of z.opened) (bindings_in_lem s z.opened h.opened) t.name (at + 1) r.attrs i.each)
    where
      tag : TagInside s (at + 1) r.attrs t
      tag = subst (TaggedInside s (at + 1) r.attrs) e i.answer

      read_so : (tag_at s (at + 1)).answer ≡ Ok t
      read_so = rw (← q) e

      meaning : (m : Meaning) → MeaningHeld s m → NextHeld s z (start_meant at z.opened t m)
      meaning (refused n) k = ⊎_elim (λ five. refused_in n at (omega arith) (omega arith) le (omega arith)) (λ six. refused_in n at (omega arith) (omega arith) le (omega arith)) k
      meaning (meant n as' own) k =
          let name = tag.name in (
            record { behind = omega arith; inside = omega arith; onward = omega arith; last = omega arith; namespace = k.0; attributes = k.1 },
            record {
              place = tag.inside;
              opened = (record { behind = omega arith; inside = omega arith; named = whole_name s (at + 1) t.name (tag_named s (at + 1) t read_so); declarations = k.2 }, h.opened);
              awaited = λ x y. let w : ◌≡◌ {A = ℕ} 0 1 = cc in omega arith;
              closed = λ x. never (sym x);
            },
          )

  begun_held : (inside : Bool) (b : BeginRead) → BeginInside s z.place inside z.closed b → NextHeld s z (read_at s z b)
  begun_held inside (Err x) i = stop_held z.place (omega arith) x i
  begun_held inside (Ok begin.Finished) i = (refl, i.0)
  begun_held inside (Ok (begin.Text at)) i = text_held at i.0 i.2 (text_end s at) refl (within_read (ValueTo s 0x3C at) s at (text_end s at) (value_inside s at 0x3C))
  begun_held inside (Ok (begin.End at)) i = end_held at i.0 i.1 z.opened h.opened (end_tag_at s (at + 2)) (end_tag_inside s (at + 2))
  begun_held inside (Ok (begin.Start at)) i = start_held at i.0 i.1 (tag_at s (at + 1)) (tag_inside s (at + 1)) refl (tag_at s (at + 1)).answer refl

  by_held : (a : Bool) (os : List Open) → All (OpenHeld s) os → NextHeld s z (next_by s z a os)
  unfolding part_of
  by_held true (o ∷ os) k =
      let few = colon_in 0 (bytes_of s o.name) in
      let open' = k.0 in
      (omega (arith, length-take o.name.len (drop o.name.at s), length-drop o.name.at s), left_held z.place o os h.place k)
  by_held true [] k = begun_held false (begin_at s z.place false z.closed) (begin_inside s z.place false z.closed)
  by_held false os k = begun_held (not (is_nil os)) (begin_at s z.place (not (is_nil os)) z.closed) (begin_inside s z.place (not (is_nil os)) z.closed)

  pub next_held : NextHeld s z (next s z)
  unfolding next
  next_held = by_held z.awaited z.opened h.opened

  -- ---- of an answer that is known
  module _ (e : Event) (z' : ReaderState) (q : next s z ≡ event e z') where
    pub event_inside : EventHeld s e
    event_inside = (subst (NextHeld s z) q next_held).0

    pub held_next : Held s z'
    held_next = (subst (NextHeld s z) q next_held).1

  pub numbered : (n p : ℕ) → next s z ≡ refusal n p → Refused s z n p
  numbered n p q = subst (NextHeld s z) q next_held

  pub cut_at : (p : ℕ) → next s z ≡ refusal 1 p → p ≡ length s
  cut_at p q = (numbered 1 p q).cut refl

  pub finished_at : (p : ℕ) → next s z ≡ finished p → p ≡ length s
  finished_at p q = (subst (NextHeld s z) q next_held).0
