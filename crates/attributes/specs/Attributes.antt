-- The attributes of a tag that are no declarations, in an array of eight numbers to each, and behind them the number of the section of each. Definitions.
use Rattle.std.specs.Prelude.{ℕ, suc, ◌+◌, ◌*◌, ◌%◌, ◌^◌, List, [], ◌∷◌, ◌++◌, map, Bool, true, false, cond, not, ◌&&◌, ◌||◌, length, get_or, take, drop, eqb}
use Rattle.laws.specs.Lists.{any, tabulate, keep}
use Rattle.laws.specs.Gather.{gather}
use Rattle.table.specs.Table.{Table}
use Rattle.lexer.specs.declared.Attr.{Attr}
use Rattle.reader.specs.declared.Span.{Span}
use Rattle.reader.specs.Spans.{span, part_span, value_span, kind_of}
use Rattle.reader.specs.Namespaces.{Namespace, same_namespace}
use Rattle.reader.specs.Stored as stored
use Rattle.reader.specs.declared.Found.{Found}
use Rattle.reader.specs.declared.Found.TheVariants as variant
use Rattle.attributes.specs.declared.Placing.{Placing}
use Rattle.model.specs.Elements.{Space, Attribute, is_prefixed, same_space, Element, stays, space_of}
use Rattle.model.specs.Groups.{AttributeGroup, groups_of}

-- An attribute as the array has it: its part, its value, the class and URI span of its namespace, and the code of the declaration in force
pub record Given : Type 0 where
  pub part : Span
  pub value : Span
  pub class : ℕ
  pub uri : Span
  pub code : ℕ

-- the namespace that a code stands for
abbrev pub namespace_of : List ℕ → List ℕ → ℕ → Namespace
namespace_of own open' code = stored.stored_space own open' (stored.found_in code)

abbrev pub given_of : Table → List ℕ → List ℕ → List ℕ → stored.Coded → Given
given_of t s own open' c =
    let space = space_of t s (namespace_of own open' c.code) in
    record { part = part_span c.attr.name; value = value_span c.attr; class = space.class; uri = space.uri; code = c.code }

-- the same of an attribute, its namespace and its code as the code has them
abbrev pub given_by : Attr → Placing → ℕ → Given
given_by a w code = record { part = part_span a.name; value = value_span a; class = w.class; uri = span w.at w.len; code = code }

-- what a namespace is in a record
abbrev pub placing_of : Space → Placing
placing_of w = record { class = w.class; at = w.uri.at; len = w.uri.len }

-- "Declarations are not delivered"
abbrev pub delivered : List ℕ → stored.Coded → Bool
delivered s c = not (stored.is_declaration (kind_of s c.attr.name))

unfoldable pub givens_of : Table → List ℕ → List ℕ → List ℕ → List stored.Coded → List Given
givens_of t s own open' l = map (given_of t s own open') (keep (delivered s) l)

-- eight numbers to an attribute
abbrev pub given_numbers : Given → List ℕ
given_numbers g =
    stored.narrowed g.part.at ∷ stored.narrowed g.part.len
    ∷ stored.narrowed g.value.at ∷ stored.narrowed g.value.len
    ∷ stored.narrowed g.class
    ∷ stored.narrowed g.uri.at ∷ stored.narrowed g.uri.len
    ∷ stored.narrowed g.code
    ∷ []

-- an array with these attributes from its first place on, and what it held behind them
unfoldable pub laid_givens : List Given → List ℕ → List ℕ
laid_givens gs l = gather given_numbers gs ++ drop (8 * length gs) l

unfoldable pub given_in : List ℕ → ℕ → Given
given_in l k =
    record {
      part = span (get_or l (8 * k) 0) (get_or l (8 * k + 1) 0);
      value = span (get_or l (8 * k + 2) 0) (get_or l (8 * k + 3) 0);
      class = get_or l (8 * k + 4) 0 % 2 ^ 8;
      uri = span (get_or l (8 * k + 5) 0) (get_or l (8 * k + 6) 0);
      code = get_or l (8 * k + 7) 0;
    }

-- of an array the attributes, and behind them the numbers of their sections
abbrev pub attributes_in : List ℕ → List ℕ
attributes_in l = take 128 l

abbrev pub sections_in : List ℕ → List ℕ
sections_in l = drop 128 l

-- ---- sections
-- the place of a namespace among others, from k on; behind the last where it is not there
unfoldable pub place_among : List ℕ → Namespace → ℕ → List Namespace → ℕ
place_among s n k [] = k
place_among s n k (m ∷ ms) = cond (same_namespace s m n) k (place_among s n (suc k) ms)

-- "The others form one section per namespace, ordered by first attribute": the namespaces of the sections so far, with one more
abbrev pub sections_with : List ℕ → List Namespace → Namespace → List Namespace
sections_with s ms n = cond (any (λ (m : Namespace). same_namespace s m n) ms) ms (ms ++ (n ∷ []))

-- "Attributes without prefix, or in the element's namespace, stay with it"
abbrev pub stays_with : List ℕ → Namespace → Namespace → Bool
stays_with s e n = not (is_prefixed n) || same_namespace s e n

abbrev pub is_nothing : Found → Bool
is_nothing variant.Nothing = true
is_nothing variant.Xml = false
is_nothing (variant.Own k) = false
is_nothing (variant.Open k) = false
is_nothing variant.Unbound = true

-- A namespace and the number of its section
pub record Numbered : Type 0 where
  pub namespace : Namespace
  pub number : ℕ

-- of the k-th attribute
abbrev pub numbered_in : List ℕ → List ℕ → List ℕ → List ℕ → ℕ → Numbered
numbered_in own open' attributes sections k = record { namespace = namespace_of own open' (given_in attributes k).code; number = get_or sections k 0 }

abbrev pub in_section : List ℕ → Namespace → Numbered → Bool
in_section s n x = not (eqb x.number 0) && same_namespace s x.namespace n

-- the number of the first that is in the section of this namespace; where there is none the next number
unfoldable pub number_among : List ℕ → Namespace → ℕ → List Numbered → ℕ
number_among s n next [] = next
number_among s n next (x ∷ xs) = cond (in_section s n x) x.number (number_among s n next xs)

-- the number of each attribute's section, from 1; 0 for one that stays with the element. ms: the sections so far
unfoldable pub numbers_from : List ℕ → Namespace → List Namespace → List Namespace → List ℕ
numbers_from s e ms [] = []
numbers_from s e ms (n ∷ ns) =
    cond (stays_with s e n) (0 ∷ numbers_from s e ms ns) (suc (place_among s n 0 ms) ∷ numbers_from s e (sections_with s ms n) ns)

unfoldable pub sections_after : List ℕ → Namespace → List Namespace → List Namespace → List Namespace
sections_after s e ms [] = ms
sections_after s e ms (n ∷ ns) = cond (stays_with s e n) (sections_after s e ms ns) (sections_after s e (sections_with s ms n) ns)

abbrev pub code_namespaces : List ℕ → List ℕ → List Given → List Namespace
code_namespaces own open' gs = map (λ (g : Given). namespace_of own open' g.code) gs

-- ---- an attribute with its section
pub record Sorted : Type 0 where
  pub part : Span
  pub value : Span
  pub class : ℕ
  pub uri : Span
  pub section : ℕ

unfoldable pub sorted_in : List ℕ → List ℕ → ℕ → Sorted
sorted_in attributes sections k =
    let g = given_in attributes k in
    record { part = g.part; value = g.value; class = g.class; uri = g.uri; section = get_or sections k 0 }

abbrev pub all_sorted : List ℕ → List ℕ → ℕ → List Sorted
all_sorted attributes sections n = tabulate (sorted_in attributes sections) 0 n

-- the first n of an array
abbrev pub sorted_held : List ℕ → ℕ → List Sorted
sorted_held l n = all_sorted (attributes_in l) (sections_in l) n

-- the same of the model's element: the number of an attribute's group in `groups_of`, from 1; 0 where it stays
unfoldable pub section_place : ℕ → List AttributeGroup → Attribute → ℕ
section_place k [] a = k
section_place k (c ∷ cs) a = cond (same_space c.space a.space) k (section_place (suc k) cs a)

abbrev pub sorted_of : Element → Attribute → Sorted
sorted_of e a =
    record { part = a.part; value = a.value; class = a.space.class; uri = a.space.uri; section = cond (stays e a) 0 (section_place 1 (groups_of e) a) }
