-- The reader's state behind an event, by what the event is; a start's name ends in its part, and a tag declares at most 16 and has at most 16 attributes.
--     followed      of the event that is next
--     event_few     a scene's starts have at most 16 attributes
use Rattle.std.specs.Prelude.{Ok, Err}
use Prim.Native.Nat.{ℕ, ◌+◌, ◌≤◌, ◌<◌}
use mathlib.Core.Path.{◌≡◌, refl, ap, subst}
use mathlib.Core.List.{List, [], ◌∷◌, ◌++◌, tail}
use mathlib.Core.Bool.{Bool, true, false, not, ◌||◌}
use mathlib.Core.Option.{Option, none, some}
use native.Mathlib.Omega.{arith}
use lib.ListN.{length, get_or}
use Rattle.laws.specs.Lists.{same_list, any, any_pair}
use Rattle.laws.proofs.Holds.{holds_cond}
use Rattle.lexer.specs.Values.{text_end}
use Rattle.lexer.specs.Tags.{TagRead, tag_at, end_tag_at}
use Rattle.lexer.specs.Begins.{begin_at}
use Rattle.lexer.specs.Reads.{Read, Tagged, Ended, BeginRead}
use Rattle.lexer.specs.declared.Name.{Name}
use Rattle.lexer.specs.declared.Attr.{Attr}
use Rattle.lexer.specs.declared.Begin.TheVariants as begin
use Rattle.lexer.proofs.Inside.{TagInside, TaggedInside, TagReadInside, tag_inside}
use Rattle.reader.specs.declared.Binding.{Binding}
use Rattle.reader.specs.Spans.{bytes_of, whole_span}
use Rattle.reader.specs.Namespaces.{declarations_of, refused_binding, Namespace, ReadAttribute, Meaning, refused, meant, meant_by, meaning_of, of_element, resolved, same_name, same_expanded}
use Rattle.reader.specs.Events.{Start, Event, start, text, end, Open, ReaderState, bindings_of, Next, event, refusal, finished, part_of, is_nil, end_read, start_meant, start_read, text_read, read_at, next_by, next, fresh_reader, events}
use Rattle.reader.specs.Held.{Held}
use Rattle.reader.proofs.Declaring.{declared_few, SomeFew, resolved_few}
use Rattle.reader.proofs.EventsFirst.{event_at, state_held}
use Rattle.reader.proofs.Held.{held_fresh}
use Rattle.reader.proofs.ReadNames.{part_of_lem}

pub record StartFollowed (s : List ℕ) (z : ReaderState) (e : Start) (z' : ReaderState) : Type 0 where
  pub own : List Binding
  pub few_own : length own ≤ 16
  pub few_attributes : length e.attributes ≤ 16
  pub part : part_of s e.name ≡ e.part
  pub state : z' ≡ record { place = z'.place; closed = false; awaited = e.empty; opened = record { name = e.name; declarations = own } ∷ z.opened }

abbrev pub EventFollowed : List ℕ → ReaderState → Event → ReaderState → Type 0
EventFollowed s z (start e) z' = StartFollowed s z e z'
EventFollowed s z (text w) z' = z' ≡ record { place = z'.place; closed = z.closed; awaited = z.awaited; opened = z.opened }
EventFollowed s z (end w at) z' = z' ≡ record { place = z'.place; closed = z'.closed; awaited = false; opened = tail z.opened }

abbrev pub NextFollowed : List ℕ → ReaderState → Next → Type 0
NextFollowed s z (event e z') = EventFollowed s z e z'
NextFollowed s z (refusal n p) = Unit {0}
NextFollowed s z (finished p) = Unit {0}

-- ---- of a tag's attributes the declarations are no more than all, and the others too
module _ (s : List ℕ) where
  abbrev MeaningFew : ℕ → Meaning → Type 0
  MeaningFew n (refused k) = Unit {0}
  MeaningFew n (meant m as' own) = (length own ≤ n) × (length as' ≤ n)

  meaning_few : (bs : List Binding) (n : Name) (attrs : List Attr) → MeaningFew (length attrs) (meaning_of s bs n attrs)
  unfolding meaning_of
  meaning_few bs n attrs =
      holds_cond (MeaningFew (length attrs)) (any (refused_binding s) own) (λ e. tt) (λ e. by (of_element s (bs ++ own) n) (resolved s (bs ++ own) attrs) (resolved_few s (bs ++ own) attrs))
    where
      own : List Binding
      own = declarations_of s attrs

      by : (o : Option Namespace) (r : Option (List ReadAttribute)) → SomeFew (length attrs) r → MeaningFew (length attrs) (meant_by s attrs own o r)
      by none r h = tt
      by (some m) none h = tt
      by (some m) (some as') h =
          holds_cond (MeaningFew (length attrs)) (any_pair (same_name s) attrs || any_pair (same_expanded s) as') {a = refused 6} {b = meant m as' own} (λ e. tt) (λ e. (declared_few s attrs, h))

-- ---- by what was read
module _ (s : List ℕ) (z : ReaderState) where
  text_followed : false ≡ z.awaited → (at : ℕ) (r : Read) → NextFollowed s z (text_read s z at r)
  text_followed a at (Err x) = tt
  text_followed a at (Ok j) = ap (λ (b : Bool). record { place = j; closed = z.closed; awaited = b; opened = z.opened }) a

  end_followed : (at : ℕ) (os : List Open) → os ≡ z.opened → (r : Ended) → NextFollowed s z (end_read s at os r)
  end_followed at [] e r = tt
  end_followed at (o ∷ os) e (Err x) = tt
  end_followed at (o ∷ os) e (Ok t) =
      holds_cond (NextFollowed s z) (same_list (bytes_of s (whole_span t.name)) (bytes_of s o.name))
      (λ q. ap (λ (xs : List Open). record { place = t.next; closed = is_nil os; awaited = false; opened = tail xs }) e)
      (λ q. tt)

  start_followed : (at : ℕ) (r : TagRead) → TagReadInside s (at + 1) r → (a : Tagged) → r.answer ≡ a → NextFollowed s z (start_read s at z.opened r a)
  start_followed at r i (Err x) e = tt
  start_followed at r i (Ok t) e = by (meaning_of s (bindings_of z.opened) t.name r.attrs) (meaning_few s (bindings_of z.opened) t.name r.attrs)
    where
      tag : TagInside s (at + 1) r.attrs t
      tag = subst (TaggedInside s (at + 1) r.attrs) e i.answer

      by : (m : Meaning) → MeaningFew s (length r.attrs) m → NextFollowed s z (start_meant at z.opened t m)
      by (refused n) k = tt
      by (meant n as' own) k = record { own = own; few_own = omega (arith, i.few, k.0); few_attributes = omega (arith, i.few, k.1); part = part_of_lem s (at + 1) t.name tag.name; state = refl }

  begun_followed : false ≡ z.awaited → (b : BeginRead) → NextFollowed s z (read_at s z b)
  begun_followed a (Err x) = tt
  begun_followed a (Ok begin.Finished) = tt
  begun_followed a (Ok (begin.Text at)) = text_followed a at (text_end s at)
  begun_followed a (Ok (begin.End at)) = end_followed at z.opened refl (end_tag_at s (at + 2))
  begun_followed a (Ok (begin.Start at)) = start_followed at (tag_at s (at + 1)) (tag_inside s (at + 1)) (tag_at s (at + 1)).answer refl

  by_followed : (a : Bool) (os : List Open) → a ≡ z.awaited → os ≡ z.opened → (a ≡ true → os ≡ [] → ⊥) → NextFollowed s z (next_by s z a os)
  by_followed true (o ∷ os) p q n = ap (λ (xs : List Open). record { place = z.place; closed = is_nil os; awaited = false; opened = tail xs }) q
  by_followed true [] p q n = absurd (n refl refl)
  by_followed false os p q n = begun_followed p (begin_at s z.place (not (is_nil os)) z.closed)

  pub followed : Held s z → (e : Event) (z' : ReaderState) → next s z ≡ event e z' → EventFollowed s z e z'
  unfolding next
  followed h e z' q = subst (NextFollowed s z) q (by_followed z.awaited z.opened refl refl h.awaited)

-- ---- a start's attributes
abbrev pub EventFew : Event → Type 0
EventFew (start e) = length e.attributes ≤ 16
EventFew (text w) = Unit {0}
EventFew (end w at) = Unit {0}

pub followed_few : (s : List ℕ) (z : ReaderState) (e : Event) (z' : ReaderState) → EventFollowed s z e z' → EventFew e
followed_few s z (start e) z' f = f.few_attributes
followed_few s z (text w) z' f = tt
followed_few s z (end w at) z' f = tt

pub event_few : (s : List ℕ) (d : Event) (k : ℕ) → k < length (events s) → EventFew (get_or (events s) k d)
event_few s d k lt =
    let r = event_at s d k lt in
    followed_few s r.before (get_or (events s) k d) r.after (followed s r.before (state_held s r.before k fresh_reader r.reached (held_fresh s)) (get_or (events s) k d) r.after r.told)
