-- Declarations, the look-up of prefixes, namespaces; numbers 5 and 6. Definitions.
use Rattle.std.specs.Prelude.{ℕ, List, [], ◌∷◌, ◌++◌, Bool, cond, not, ◌&&◌, ◌||◌, length, eqb}
use Rattle.std.proofs.Math.Option.{Option, none, some}
use Rattle.laws.specs.Lists.{same_list, any, any_pair}
use Rattle.laws.specs.Gather.{gather}
use Rattle.compare.specs.Compare.{xml_uri, xmlns_uri}
use Rattle.lexer.specs.declared.Name.{Name}
use Rattle.lexer.specs.declared.Attr.{Attr}
use Rattle.reader.specs.Spans.{span, bytes_of, whole_span, prefix_span, part_span, value_span, has_prefix, xml_prefix, xmlns_prefix, kind_of}
use Rattle.reader.specs.declared.Span.{Span}
use Rattle.reader.specs.declared.Binding.{Binding}
use Rattle.reader.specs.declared.Kind.{Kind}
use Rattle.reader.specs.declared.Kind.TheVariants.{Plain, Prefixed, Default, Declares}

abbrev pub binding : Span → Span → Binding
binding prefix uri = record { prefix = prefix; uri = uri }

-- the declaration that an attribute makes, if it makes one: "prefix span, zero for the default, and URI span"
abbrev pub declared_by : Kind → Attr → List Binding
declared_by Plain a = []
declared_by Prefixed a = []
declared_by Default a = binding (span 0 0) (value_span a) ∷ []
declared_by Declares a = binding (part_span a.name) (value_span a) ∷ []

-- a tag's declarations, in tag order
abbrev pub declarations_of : List ℕ → List Attr → List Binding
declarations_of s attrs = gather (λ (a : Attr). declared_by (kind_of s a.name) a) attrs

-- "xml or xmlns declared; a prefix declared empty; the URI of xml or http://www.w3.org/2000/xmlns/ declared; & in a declaration"
unfoldable pub refused_binding : List ℕ → Binding → Bool
refused_binding s b =
    let prefix = bytes_of s b.prefix in
    let uri = bytes_of s b.uri in
    not (eqb (length prefix) 0) && (same_list prefix xml_prefix || same_list prefix xmlns_prefix || eqb (length uri) 0)
    || (same_list uri xml_uri || same_list uri xmlns_uri || any (λ (b : ℕ). eqb b 0x26) uri)

-- the first that is there
abbrev pub or_outer : Option Binding → Option Binding → Option Binding
or_outer none other = other
or_outer (some b) other = some b

-- "A prefix is looked up in the innermost declaration first, then outward; a tag's own declarations count." The bindings stand outermost
-- first, so the last that fits is taken; the default's prefix is empty
unfoldable pub look_up : List ℕ → List Binding → List ℕ → Option Binding
look_up s [] prefix = none
look_up s (b ∷ bs) prefix = or_outer (look_up s bs prefix) (cond (same_list (bytes_of s b.prefix) prefix) (some b) none)

-- A namespace: none, that of prefix xml, or the value of the declaration in force
pub data Namespace : Type 0 where
  nothing : Namespace
  xml : Namespace
  declared : Span → Namespace

-- "Two namespaces are equal when their URIs are equal byte for byte"; no namespace is the empty URI, which "xmlns=\"\"" declares
abbrev pub uri_of : List ℕ → Namespace → List ℕ
uri_of s nothing = []
uri_of s xml = xml_uri
uri_of s (declared w) = bytes_of s w

unfoldable pub same_namespace : List ℕ → Namespace → Namespace → Bool
same_namespace s a b = same_list (uri_of s a) (uri_of s b)

abbrev pub of_binding : Option Namespace → Option Binding → Option Namespace
of_binding other none = other
of_binding other (some b) = some (declared b.uri)

-- the namespace of a prefix; none where it is unbound
unfoldable pub of_prefix : List ℕ → List Binding → List ℕ → Option Namespace
of_prefix s bs prefix = cond (same_list prefix xml_prefix) (some xml) (of_binding none (look_up s bs prefix))

-- of an element: of its prefix, or the default's. "xmlns as an element's prefix" is as one that is unbound
unfoldable pub of_element : List ℕ → List Binding → Name → Option Namespace
of_element s bs n =
    cond (has_prefix n)
    (cond (same_list (bytes_of s (prefix_span n)) xmlns_prefix) none (of_prefix s bs (bytes_of s (prefix_span n))))
    (of_binding (some nothing) (look_up s bs []))

-- An attribute that is no declaration
pub record ReadAttribute : Type 0 where
  pub part : Span
  pub value : Span
  pub namespace : Namespace

abbrev pub attribute : Attr → Namespace → ReadAttribute
attribute a n = record { part = part_span a.name; value = value_span a; namespace = n }

-- an attribute before those that follow; none where a prefix is unbound
abbrev pub before : Attr → Option Namespace → Option (List ReadAttribute) → Option (List ReadAttribute)
before a none rest = none
before a (some n) none = none
before a (some n) (some as') = some (attribute a n ∷ as')

-- "The default does not apply to attributes"
abbrev pub resolved_by : List ℕ → List Binding → Kind → Attr → Option (List ReadAttribute) → Option (List ReadAttribute)
resolved_by s bs Plain a rest = before a (some nothing) rest
resolved_by s bs Prefixed a rest = before a (of_prefix s bs (bytes_of s (prefix_span a.name))) rest
resolved_by s bs Default a rest = rest
resolved_by s bs Declares a rest = rest

-- the attributes in tag order, declarations left out; none where a prefix is unbound
unfoldable pub resolved : List ℕ → List Binding → List Attr → Option (List ReadAttribute)
resolved s bs [] = some []
resolved s bs (a ∷ as') = resolved_by s bs (kind_of s a.name) a (resolved s bs as')

-- "two attributes of one name as written", declarations too
abbrev pub same_name : List ℕ → Attr → Attr → Bool
same_name s a b = same_list (bytes_of s (whole_span a.name)) (bytes_of s (whole_span b.name))

-- "or of one namespace and part"
abbrev pub same_expanded : List ℕ → ReadAttribute → ReadAttribute → Bool
same_expanded s a b = same_namespace s a.namespace b.namespace && same_list (bytes_of s a.part) (bytes_of s b.part)

-- What a tag means: number 5 or 6, or the element's namespace, its attributes and its declarations
pub data Meaning : Type 0 where
  refused : ℕ → Meaning
  meant : Namespace → List ReadAttribute → List Binding → Meaning

abbrev pub check_twice : List ℕ → List Attr → Namespace → List Binding → List ReadAttribute → Meaning
check_twice s attrs n own as' = cond (any_pair (same_name s) attrs || any_pair (same_expanded s) as') (refused 6) (meant n as' own)

abbrev pub meant_by : List ℕ → List Attr → List Binding → Option Namespace → Option (List ReadAttribute) → Meaning
meant_by s attrs own none rest = refused 5
meant_by s attrs own (some n) none = refused 5
meant_by s attrs own (some n) (some as') = check_twice s attrs n own as'

-- "5 unbound prefix; xmlns as an element's prefix; ..; 6 two attributes of one name as written, or of one namespace and part"
unfoldable pub meaning_of : List ℕ → List Binding → Name → List Attr → Meaning
meaning_of s bs n attrs =
    let own = declarations_of s attrs in
    cond (any (refused_binding s) own) (refused 5) (meant_by s attrs own (of_element s (bs ++ own) n) (resolved s (bs ++ own) attrs))
