-- Bindings and namespaces in arrays of numbers, as the code holds them, and what it finds there. Definitions; what they mean is said by
-- the laws of proofs/Agree.antt, in the terms of Namespaces.antt.
use Rattle.std.specs.Prelude.{ℕ, zero, suc, ◌+◌, ◌*◌, ◌-◌, ◌%◌, ◌^◌, List, [], ◌∷◌, ◌++◌, Bool, true, false, cond, not, ◌&&◌, ◌||◌, length, get_or, drop, eqb, leb, ltb, Option, Some, None, Result, Ok, Err}
use Rattle.laws.specs.Lists.{same_list, any, any_pair, tabulate}
use Rattle.laws.specs.Gather.{gather}
use Rattle.lexer.specs.declared.Name.{Name}
use Rattle.lexer.specs.declared.Attr.{Attr}
use Rattle.lexer.specs.Attrs.{attr_in}
use Rattle.reader.specs.Spans.{span, bytes_of, prefix_span, part_span, has_prefix, xml_prefix, xmlns_prefix, kind_of}
use Rattle.reader.specs.Namespaces.{binding, refused_binding, Namespace, nothing, xml, declared, same_namespace, same_name}
use Rattle.reader.specs.declared.Binding.{Binding}
use Rattle.reader.specs.declared.Kind.{Kind}
use Rattle.reader.specs.declared.Kind.TheVariants.{Plain, Prefixed, Default, Declares}
use Rattle.reader.specs.declared.Found.{Found}
use Rattle.reader.specs.declared.Found.TheVariants as found
use Rattle.reader.specs.declared.Element.{Element}
use Rattle.reader.specs.declared.NamespaceError.{NamespaceError}
use Rattle.reader.specs.declared.NamespaceError.TheVariants.{BadPrefix, Duplicate}

-- at most so many
abbrev pub at_most : ℕ → ℕ → ℕ
at_most most n = cond (leb n most) n most

-- four numbers to a binding: its prefix and the prefix's length, its URI and the URI's length
unfoldable pub binding_in : List ℕ → ℕ → Binding
binding_in l k = binding (span (get_or l (4 * k) 0) (get_or l (4 * k + 1) 0)) (span (get_or l (4 * k + 2) 0) (get_or l (4 * k + 3) 0))

abbrev pub bindings_in : List ℕ → ℕ → List Binding
bindings_in l n = tabulate (binding_in l) 0 n

-- a number as 32 bits hold it: places and lengths of a scene are far below
abbrev pub narrowed : ℕ → ℕ
narrowed n = n % 2 ^ 32

abbrev pub binding_numbers : Binding → List ℕ
binding_numbers b = narrowed b.prefix.at ∷ narrowed b.prefix.len ∷ narrowed b.uri.at ∷ narrowed b.uri.len ∷ []

-- an array with these bindings from its first place on, and what it held behind them
unfoldable pub laid_bindings : List Binding → List ℕ → List ℕ
laid_bindings bs l = gather binding_numbers bs ++ drop (4 * length bs) l

-- the declarations before the first that 5 refuses
unfoldable pub fitting : List ℕ → List Binding → List Binding
fitting s [] = []
fitting s (b ∷ bs) = cond (refused_binding s b) [] (b ∷ fitting s bs)

-- what declaring gives, and the array of the tag's own declarations behind it
abbrev pub declared_of : List ℕ → List Binding → Result ℕ NamespaceError
declared_of s ds = cond (any (refused_binding s) ds) (Err BadPrefix) (Ok (length ds))

-- the place, from 0, of one that is counted from 1; none for 0
abbrev pub counted_from_1 : ℕ → Option ℕ
counted_from_1 zero = None
counted_from_1 (suc k) = Some k

-- the last of the first so many bindings with this prefix, counted from 1; 0 where there is none
unfoldable pub look_from : List ℕ → List ℕ → ℕ → List ℕ → ℕ
look_from s l zero prefix = 0
look_from s l (suc k) prefix = cond (same_list (bytes_of s (binding_in l k).prefix) prefix) (suc k) (look_from s l k prefix)

-- among those that are open
abbrev pub found_open : List ℕ → ℕ → Found
found_open prefix k = cond (eqb k 0) (cond (eqb (length prefix) 0) found.Nothing found.Unbound) (found.Open (k - 1))

-- the tag's own declarations first, of which there are at most 16, then the open ones, at most 64
unfoldable pub found_of : List ℕ → List ℕ → ℕ → List ℕ → ℕ → List ℕ → Found
found_of s own owned open' bound prefix =
    cond (same_list prefix xml_prefix) found.Xml
    (cond (eqb (look_from s own (at_most 16 owned) prefix) 0)
    (found_open prefix (look_from s open' (at_most 64 bound) prefix))
    (found.Own (look_from s own (at_most 16 owned) prefix - 1)))

-- of an element, and of an attribute
unfoldable pub found_element : List ℕ → List ℕ → ℕ → List ℕ → ℕ → Name → Found
found_element s own owned open' bound n =
    cond (has_prefix n)
    (cond (same_list (bytes_of s (prefix_span n)) xmlns_prefix) found.Unbound (found_of s own owned open' bound (bytes_of s (prefix_span n))))
    (found_of s own owned open' bound [])

abbrev pub found_by : List ℕ → List ℕ → ℕ → List ℕ → ℕ → Kind → Name → Found
found_by s own owned open' bound Plain n = found.Nothing
found_by s own owned open' bound Prefixed n = found_of s own owned open' bound (bytes_of s (prefix_span n))
found_by s own owned open' bound Default n = found.Nothing
found_by s own owned open' bound Declares n = found.Nothing

unfoldable pub found_attribute : List ℕ → List ℕ → ℕ → List ℕ → ℕ → Name → Found
found_attribute s own owned open' bound n = found_by s own owned open' bound (kind_of s n) n

-- what was found, as a number
abbrev pub code_of : Found → ℕ
code_of found.Nothing = 0
code_of found.Xml = 1
code_of (found.Own k) = 2 + k
code_of (found.Open k) = 18 + k
code_of found.Unbound = 0

abbrev pub found_in : ℕ → Found
found_in n = cond (eqb n 0) found.Nothing (cond (eqb n 1) found.Xml (cond (ltb n 18) (found.Own (n - 2)) (found.Open (n - 18))))

-- the namespace that was found
abbrev pub stored_space : List ℕ → List ℕ → Found → Namespace
stored_space own open' found.Nothing = nothing
stored_space own open' found.Xml = xml
stored_space own open' (found.Own k) = declared (binding_in own k).uri
stored_space own open' (found.Open k) = declared (binding_in open' k).uri
stored_space own open' found.Unbound = nothing

abbrev pub code_then : Found → List ℕ → List ℕ
code_then found.Nothing l = 0 ∷ l
code_then found.Xml l = 1 ∷ l
code_then (found.Own k) l = (2 + k) ∷ l
code_then (found.Open k) l = (18 + k) ∷ l
code_then found.Unbound l = []

-- the codes of the attributes before the first whose prefix is unbound
unfoldable pub codes_of : List ℕ → List ℕ → ℕ → List ℕ → ℕ → List Attr → List ℕ
codes_of s own owned open' bound [] = []
codes_of s own owned open' bound (a ∷ as') = code_then (found_attribute s own owned open' bound a.name) (codes_of s own owned open' bound as')

-- an array with these numbers from its first place on, and what it held behind them
abbrev pub laid_numbers : List ℕ → List ℕ → List ℕ
laid_numbers l array = l ++ drop (length l) array

abbrev pub is_declaration : Kind → Bool
is_declaration Plain = false
is_declaration Prefixed = false
is_declaration Default = true
is_declaration Declares = true

-- An attribute with its code
pub record Coded : Type 0 where
  pub attr : Attr
  pub code : ℕ

-- the attributes of an array with their codes, and the k-th
abbrev pub coded : List Attr → List ℕ → List Coded
coded [] codes = []
coded (a ∷ as') [] = record { attr = a; code = 0 } ∷ coded as' []
coded (a ∷ as') (c ∷ cs) = record { attr = a; code = c } ∷ coded as' cs

abbrev pub coded_at : List ℕ → List ℕ → ℕ → Coded
coded_at array codes k = record { attr = attr_in array k; code = get_or codes k 0 }

-- number 6 of two attributes
unfoldable pub clashes : List ℕ → List ℕ → List ℕ → Coded → Coded → Bool
clashes s own open' a b =
    same_name s a.attr b.attr
    || not (is_declaration (kind_of s a.attr.name))
    && (not (is_declaration (kind_of s b.attr.name))
    && (same_namespace s (stored_space own open' (found_in a.code)) (stored_space own open' (found_in b.code))
    && same_list (bytes_of s (part_span a.attr.name)) (bytes_of s (part_span b.attr.name))))

unfoldable pub twice_in : List ℕ → List ℕ → List ℕ → List Attr → List ℕ → Bool
twice_in s own open' attrs codes = any_pair (clashes s own open') (coded attrs codes)

abbrev pub is_unbound : Found → Bool
is_unbound found.Nothing = false
is_unbound found.Xml = false
is_unbound (found.Own k) = false
is_unbound (found.Open k) = false
is_unbound found.Unbound = true

abbrev pub element_with : Found → ℕ → Element
element_with f owned = record { found = f; owned = owned }

-- 5 and 6 of a tag whose declarations fit: "unbound prefix; xmlns as an element's prefix"; then "two attributes of one name .."
unfoldable pub meant_of : List ℕ → List ℕ → ℕ → List ℕ → ℕ → Name → List Attr → Result Element NamespaceError
meant_of s own owned open' bound n attrs =
    let f = found_element s own owned open' bound n in
    let codes = codes_of s own owned open' bound attrs in
    cond (is_unbound f) (Err BadPrefix)
    (cond (ltb (length codes) (length attrs)) (Err BadPrefix)
    (cond (twice_in s own open' attrs codes) (Err Duplicate) (Ok (element_with f owned))))

-- the array of the attributes' codes behind it
unfoldable pub codes_after : List ℕ → List ℕ → ℕ → List ℕ → ℕ → Name → List Attr → List ℕ → List ℕ
codes_after s own owned open' bound n attrs codes =
    cond (is_unbound (found_element s own owned open' bound n)) codes (laid_numbers (codes_of s own owned open' bound attrs) codes)

-- Document 01's numbers of what a tag means: 0 where it means an element
abbrev pub meant_number : Result Element NamespaceError → ℕ
meant_number (Ok e) = 0
meant_number (Err BadPrefix) = 5
meant_number (Err Duplicate) = 6
