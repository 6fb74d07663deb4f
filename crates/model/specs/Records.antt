-- 'Records': the seven fields of a record, its 16 bytes, and what each kind of record holds. Definitions.
use Rattle.std.specs.Prelude.{ℕ, ◌/◌, ◌%◌, ◌^◌, List, [], ◌∷◌, ◌++◌}
use Rattle.reader.specs.declared.Span.{Span}
use Rattle.reader.specs.Spans.{span}
use Rattle.model.specs.Elements.{Space, Attribute, Element}

-- A record without its unit: "kind 8, class 8, offset 24, length 24, URI offset 24, URI length 24"
pub record Body : Type 0 where
  pub kind : ℕ
  pub class : ℕ
  pub at : ℕ
  pub len : ℕ
  pub uri_at : ℕ
  pub uri_len : ℕ

-- a number's lowest 8, 16 and 24 bits, "most significant bit first"
abbrev pub byte1 : ℕ → List ℕ
byte1 n = n % 2 ^ 8 ∷ []

abbrev pub byte2 : ℕ → List ℕ
byte2 n = n / 2 ^ 8 % 2 ^ 8 ∷ n % 2 ^ 8 ∷ []

abbrev pub byte3 : ℕ → List ℕ
byte3 n = n / 2 ^ 16 % 2 ^ 8 ∷ n / 2 ^ 8 % 2 ^ 8 ∷ n % 2 ^ 8 ∷ []

-- "16 bytes, most significant bit first: unit 16, kind 8, class 8, offset 24, length 24, URI offset 24, URI length 24"
unfoldable pub record_bytes : ℕ → Body → List ℕ
record_bytes unit b =
    byte2 unit ++ byte1 b.kind ++ byte1 b.class ++ byte3 b.at ++ byte3 b.len ++ byte3 b.uri_at ++ byte3 b.uri_len

-- a record of a span in a namespace, and one without a URI span: "Unused fields are zero"
abbrev pub spaced : ℕ → Span → ℕ → Span → Body
spaced kind w class uri = record { kind = kind; class = class; at = w.at; len = w.len; uri_at = uri.at; uri_len = uri.len }

abbrev pub plain : ℕ → ℕ → Span → Body
plain kind class w = spaced kind w class (span 0 0)

-- "0 open (class is the schema, offset the tag's <, length 1 for an attribute unit)"
abbrev pub open_body : ℕ → Element → Body
open_body schema e = plain 0 schema (span e.at 0)

abbrev pub open_attributes : ℕ → Element → Body
open_attributes schema e = plain 0 schema (span e.at 1)

-- "1 start and 2 attribute (class of its namespace, span of the part ..); 3 attribute value (between the quotes); 4 text; 6 close"
abbrev pub start_body : Element → Body
start_body e = spaced 1 e.part e.space.class e.space.uri

abbrev pub attribute_bodies : Attribute → List Body
attribute_bodies a = spaced 2 a.part a.space.class a.space.uri ∷ plain 3 0 a.value ∷ []

abbrev pub text_body : Span → Body
text_body w = plain 4 0 w

abbrev pub close_body : Body
close_body = plain 6 0 (span 0 0)

-- "A virtual element's start and end have class 253, spans zero"
abbrev pub virtual_start : Body
virtual_start = plain 1 253 (span 0 0)

abbrev pub virtual_end : Body
virtual_end = plain 5 253 (span 0 0)

-- What an open element keeps of its start: the part of its name, and its namespace
pub record OpenElement : Type 0 where
  pub part : Span
  pub space : Space

abbrev pub kept_of : Element → OpenElement
kept_of e = record { part = e.part; space = e.space }

-- "5 end (that part of the end tag's name, or of the start's for />; class and URI span of the start)"
abbrev pub end_body : OpenElement → Span → Body
end_body k part = spaced 5 part k.space.class k.space.uri
