-- 'Reader and its events': the reader's state, the next event, and a scene's events. Definitions.
use Rattle.std.specs.Prelude.{ℕ, zero, suc, ◌+◌, ◌*◌, ◌-◌, List, [], ◌∷◌, ◌++◌, Bool, true, false, cond, not, length, eqb, Ok, Err}
use Rattle.laws.specs.Lists.{same_list}
use Rattle.lexer.specs.Stops.{number_of, stop_place}
use Rattle.lexer.specs.Values.{text_end}
use Rattle.lexer.specs.Tags.{TagRead, tag_at, end_tag_at}
use Rattle.lexer.specs.Begins.{begin_at}
use Rattle.lexer.specs.declared.Stop.{Stop}
use Rattle.lexer.specs.Reads.{Read, Tagged, Ended, BeginRead}
use Rattle.lexer.specs.declared.Tag.{Tag}
use Rattle.lexer.specs.declared.Begin.TheVariants as begin
use Rattle.reader.specs.Spans.{span, between, bytes_of, whole_span, part_span}
use Rattle.reader.specs.Namespaces.{Namespace, ReadAttribute, Meaning, refused, meant, meaning_of}
use Rattle.reader.specs.declared.Span.{Span}
use Rattle.reader.specs.declared.Binding.{Binding}

-- A start: its tag's <, its name whole and its part, its namespace, its attributes, whether the tag is />
pub record Start : Type 0 where
  pub at : ℕ
  pub name : Span
  pub part : Span
  pub namespace : Namespace
  pub attributes : List ReadAttribute
  pub empty : Bool

-- "Events: start, text, end". An end has its name's part and the < of its tag (of the start's tag for />)
pub data Event : Type 0 where
  start : Start → Event
  text : Span → Event
  end : Span → ℕ → Event

-- An open element: its whole name and its declarations
pub record Open : Type 0 where
  pub name : Span
  pub declarations : List Binding

-- Where the reader is: the place, whether the root has closed, whether the end of a /> is awaited, the open elements, innermost first
pub record ReaderState : Type 0 where
  pub place : ℕ
  pub closed : Bool
  pub awaited : Bool
  pub opened : List Open

-- "Fresh is place 0, .. nothing open, no root closed"
abbrev pub fresh_reader : ReaderState
fresh_reader = record { place = 0; closed = false; awaited = false; opened = [] }

-- the open bindings, outermost first
unfoldable pub bindings_of : List Open → List Binding
bindings_of [] = []
bindings_of (o ∷ os) = bindings_of os ++ o.declarations

-- The next event and the state after it; or a refusal by 1 to 6 and its place; or 9, and the scene's length
pub data Next : Type 0 where
  event : Event → ReaderState → Next
  refusal : ℕ → ℕ → Next
  finished : ℕ → Next

abbrev pub stopped : List ℕ → Stop → Next
stopped s x = refusal (number_of x) (stop_place s x)

-- how many bytes stand up to and with the first colon; 0 where there is none
unfoldable pub colon_end : ℕ → List ℕ → ℕ
colon_end k [] = 0
colon_end k (b ∷ l) = cond (eqb b 0x3A) (k + 1) (colon_end (k + 1) l)

-- the part of a name that was read before: "that part of the end tag's name, or of the start's for />"
unfoldable pub part_of : List ℕ → Span → Span
part_of s name = let k = colon_end 0 (bytes_of s name) in span (name.at + k) (name.len - k)

abbrev pub is_nil : List Open → Bool
is_nil [] = true
is_nil (o ∷ os) = false

-- the state behind the end of the innermost element
abbrev pub left : ℕ → List Open → ReaderState
left place os = record { place = place; closed = is_nil os; awaited = false; opened = os }

-- "The tag /> gives a start, then an end": the end that is awaited, at the place where the start ended
abbrev pub end_of_empty : List ℕ → ℕ → Open → List Open → Next
end_of_empty s place o os = event (end (part_of s o.name) (o.name.at - 1)) (left place os)

-- "4 end name unlike the open one's bytes (<)"
abbrev pub end_read : List ℕ → ℕ → List Open → Ended → Next
end_read s at [] t = refusal 2 (at + 1)
end_read s at (o ∷ os) (Err x) = stopped s x
end_read s at (o ∷ os) (Ok t) =
    cond (same_list (bytes_of s (whole_span t.name)) (bytes_of s o.name))
    (event (end (part_span t.name) at) (left t.next os))
    (refusal 4 at)

abbrev pub start_meant : ℕ → List Open → Tag → Meaning → Next
start_meant at os t (refused n) = refusal n at
start_meant at os t (meant n as' own) =
    event
    (start (record { at = at; name = whole_span t.name; part = part_span t.name; namespace = n; attributes = as'; empty = t.empty }))
    (record { place = t.next; closed = false; awaited = t.empty; opened = record { name = whole_span t.name; declarations = own } ∷ os })

abbrev pub start_read : List ℕ → ℕ → List Open → TagRead → Tagged → Next
start_read s at os r (Err x) = stopped s x
start_read s at os r (Ok t) = start_meant at os t (meaning_of s (bindings_of os) t.name r.attrs)

abbrev pub text_read : List ℕ → ReaderState → ℕ → Read → Next
text_read s z at (Err x) = stopped s x
text_read s z at (Ok j) =
    event (text (between at j)) (record { place = j; closed = z.closed; awaited = false; opened = z.opened })

-- "then 2, 3 or 1 by first byte; then 4; 5, 6"
abbrev pub read_at : List ℕ → ReaderState → BeginRead → Next
read_at s z (Err x) = stopped s x
read_at s z (Ok begin.Finished) = finished (length s)
read_at s z (Ok (begin.Text at)) = text_read s z at (text_end s at)
read_at s z (Ok (begin.End at)) = end_read s at z.opened (end_tag_at s (at + 2))
read_at s z (Ok (begin.Start at)) = start_read s at z.opened (tag_at s (at + 1)) (tag_at s (at + 1)).answer

abbrev pub next_by : List ℕ → ReaderState → Bool → List Open → Next
next_by s z true (o ∷ os) = end_of_empty s z.place o os
next_by s z true [] = read_at s z (begin_at s z.place false z.closed)
next_by s z false os = read_at s z (begin_at s z.place (not (is_nil os)) z.closed)

unfoldable pub next : List ℕ → ReaderState → Next
next s z = next_by s z z.awaited z.opened

abbrev pub event_then : (ReaderState → List Event) → Next → List Event
event_then more (event e z) = e ∷ more z
event_then more (refusal n p) = []
event_then more (finished p) = []

-- the events that follow a state, at most so many
unfoldable pub events_from : ℕ → List ℕ → ReaderState → List Event
events_from zero s z = []
events_from (suc n) s z = event_then (λ (z' : ReaderState). events_from n s z') (next s z)

-- "A scene's events are what the reader's rules give from its first byte on, up to the first refusal by 1 to 6, with 7 left aside"
unfoldable pub events : List ℕ → List Event
events s = events_from (2 * length s + 2) s fresh_reader

abbrev pub last_then : (ReaderState → Next) → Next → Next
last_then more (event e z) = more z
last_then more (refusal n p) = refusal n p
last_then more (finished p) = finished p

unfoldable pub last_from : ℕ → List ℕ → ReaderState → Next
last_from zero s z = next s z
last_from (suc n) s z = last_then (λ (z' : ReaderState). last_from n s z') (next s z)

-- how reading a scene ends: the first refusal by 1 to 6, or 9
unfoldable pub last_of : List ℕ → Next
last_of s = last_from (2 * length s + 2) s fresh_reader
