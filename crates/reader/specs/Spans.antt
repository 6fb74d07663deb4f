-- Names and values as spans of the scene. Definitions.
use Rattle.std.specs.Prelude.{ℕ, ◌-◌, List, Bool, cond, ltb}
use Rattle.laws.specs.Lists.{same_list}
use Rattle.laws.specs.Text.{bytes}
use Rattle.compare.specs.Compare.{span_of}
use Rattle.lexer.specs.declared.Name.{Name}
use Rattle.lexer.specs.declared.Attr.{Attr}
use Rattle.reader.specs.declared.Span.{Span}
use Rattle.reader.specs.declared.Kind.{Kind}
use Rattle.reader.specs.declared.Kind.TheVariants.{Plain, Prefixed, Default, Declares}

abbrev pub span : ℕ → ℕ → Span
span at len = record { at = at; len = len }

-- from a place up to another
abbrev pub between : ℕ → ℕ → Span
between from to = span from (to - from)

-- the bytes of a span
abbrev pub bytes_of : List ℕ → Span → List ℕ
bytes_of s w = span_of s w.at w.len

-- a name whole, its prefix (without the colon), and "the part after the colon, or the whole name without one"
abbrev pub whole_span : Name → Span
whole_span n = between n.at n.end

abbrev pub prefix_span : Name → Span
prefix_span n = between n.at (n.part - 1)

abbrev pub part_span : Name → Span
part_span n = between n.part n.end

-- "attribute value (between the quotes)"
abbrev pub value_span : Attr → Span
value_span a = between a.value a.stop

abbrev pub has_prefix : Name → Bool
has_prefix n = ltb n.at n.part

abbrev pub xml_prefix : List ℕ
xml_prefix = bytes "xml"

abbrev pub xmlns_prefix : List ℕ
xmlns_prefix = bytes "xmlns"

-- xmlns and xmlns:part are declarations; another name with a prefix is in a namespace, one without in none
unfoldable pub kind_of : List ℕ → Name → Kind
kind_of s n =
    cond (has_prefix n)
    (cond (same_list (bytes_of s (prefix_span n)) xmlns_prefix) Declares Prefixed)
    (cond (same_list (bytes_of s (whole_span n)) xmlns_prefix) Default Plain)
