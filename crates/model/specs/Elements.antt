-- What a start tells the dispatcher, with its namespaces as records have them. Definitions.
use Rattle.std.specs.Prelude.{ℕ, List, map, Bool, true, false, cond, ◌||◌, not, eqb}
use Rattle.laws.specs.Lists.{same_list}
use Rattle.table.specs.Table.{Table, class_of}
use Rattle.reader.specs.declared.Span.{Span}
use Rattle.reader.specs.Spans.{span}
use Rattle.reader.specs.Namespaces as scene
use Rattle.reader.specs.Events.{Start}

-- A namespace: its class, the URI span that a record has, and its URI, which is what it is
pub record Space : Type 0 where
  pub class : ℕ
  pub uri : Span
  pub bytes : List ℕ

-- "value of the declaration in force"
abbrev pub uri_span : scene.Namespace → Span
uri_span scene.nothing = span 0 0
uri_span scene.xml = span 0 0
uri_span (scene.declared w) = w

-- "class of its namespace"; "the URI span .. only for class 255"
unfoldable pub space_of : Table → List ℕ → scene.Namespace → Space
space_of t s n =
    let class = class_of t (scene.uri_of s n) in
    record { class = class; uri = cond (eqb class 255) (uri_span n) (span 0 0); bytes = scene.uri_of s n }

-- An attribute: whether it has a prefix, its part, its value and its namespace
pub record Attribute : Type 0 where
  pub prefixed : Bool
  pub part : Span
  pub value : Span
  pub space : Space

-- an attribute without prefix is in no namespace, one with a prefix in a declared one or xml's
abbrev pub is_prefixed : scene.Namespace → Bool
is_prefixed scene.nothing = false
is_prefixed scene.xml = true
is_prefixed (scene.declared w) = true

-- An element at its start: its tag's <, the part of its name, its namespace, its attributes in tag order
pub record Element : Type 0 where
  pub at : ℕ
  pub part : Span
  pub space : Space
  pub attributes : List Attribute

unfoldable pub attribute_of : Table → List ℕ → scene.ReadAttribute → Attribute
attribute_of t s a =
    record { prefixed = is_prefixed a.namespace; part = a.part; value = a.value; space = space_of t s a.namespace }

unfoldable pub element_of : Table → List ℕ → Start → Element
element_of t s e =
    record { at = e.at; part = e.part; space = space_of t s e.namespace; attributes = map (attribute_of t s) e.attributes }

-- "Two namespaces are equal when their URIs are equal byte for byte"
abbrev pub same_space : Space → Space → Bool
same_space a b = same_list a.bytes b.bytes

-- "Attributes without prefix, or in the element's namespace, stay with it"
abbrev pub stays : Element → Attribute → Bool
stays e a = not a.prefixed || same_space e.space a.space
