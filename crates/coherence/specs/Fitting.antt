-- Number 20, "session not coherent", of a span, a prefix and a strand, by the phrases of document 01's list. Definitions.
use Rattle.std.specs.Prelude.{ℕ, ◌+◌, List, Bool, true, false, ◌&&◌, ◌||◌, length, leb, ltb, eqb}
use Rattle.std.proofs.Math.Option.{Option, none, some}
use Rattle.table.specs.declared.Action.{Action}
use Rattle.table.specs.declared.Action.TheVariants.{Attach, Unwrap, Validate}
use Rattle.lexer.specs.Whole.{is_part}
use Rattle.reader.specs.declared.Span.{Span}
use Rattle.reader.specs.Spans.{bytes_of}

-- "a place or span outside the scene"
abbrev pub span_inside : List ℕ → Span → Bool
span_inside s w = leb (w.at + w.len) (length s)

-- "or whose prefix is neither zero nor a name part"
abbrev pub prefix_fits : List ℕ → Span → Bool
prefix_fits s w = eqb w.at 0 && eqb w.len 0 || is_part (bytes_of s w)

-- "a mode, class or unit that the table or count lacks"
abbrev pub target_fits : ℕ → Option ℕ → Bool
target_fits units none = true
target_fits units (some u) = ltb u units

-- "a validate strand without a target"
abbrev pub aims : Action → Option ℕ → Bool
aims Attach target = true
aims Unwrap target = true
aims Validate none = false
aims Validate (some u) = true
