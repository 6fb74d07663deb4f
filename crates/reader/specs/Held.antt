-- What a reader's state is: its place and its spans lie inside the scene, its names are names, its declarations are none that 5 refuses. Definitions.
use Rattle.std.specs.Prelude.{ℕ, ◌+◌, ◌≤◌, ◌<◌, ◌≡◌, List, [], true, false, ◌⊎◌, length}
use Rattle.laws.specs.Members.{All}
use Rattle.lexer.specs.Whole.{is_part, is_whole_name}
use Rattle.reader.specs.Spans.{span, bytes_of}
use Rattle.reader.specs.Namespaces.{refused_binding}
use Rattle.reader.specs.Events.{Open, ReaderState}
use Rattle.reader.specs.declared.Span.{Span}
use Rattle.reader.specs.declared.Binding.{Binding}

abbrev pub SpanHeld : List ℕ → Span → Type 0
SpanHeld s w = w.at + w.len ≤ length s

-- a declaration: of the default, or of a prefix that is a part
pub record BindingIn (s : List ℕ) (b : Binding) : Type 0 where
  pub prefix : SpanHeld s b.prefix
  pub uri : SpanHeld s b.uri
  pub part : (b.prefix ≡ span 0 0) ⊎ (is_part (bytes_of s b.prefix) ≡ true)

pub record BindingHeld (s : List ℕ) (b : Binding) : Type 0 where
  pub inside : BindingIn s b
  pub fits : refused_binding s b ≡ false

-- an open element: a < stands before its name
pub record OpenHeld (s : List ℕ) (o : Open) : Type 0 where
  pub behind : 0 < o.name.at
  pub inside : SpanHeld s o.name
  pub named : is_whole_name (bytes_of s o.name) ≡ true
  pub declarations : All (BindingHeld s) o.declarations

pub record Held (s : List ℕ) (z : ReaderState) : Type 0 where
  pub place : z.place ≤ length s
  pub opened : All (OpenHeld s) z.opened
  pub awaited : z.awaited ≡ true → z.opened ≡ [] → ⊥
  pub closed : z.closed ≡ true → z.opened ≡ []
