-- 'Rule table': what the bytes of a table say. Definitions.
use Rattle.std.specs.Prelude.{ℕ, zero, suc, ◌+◌, ◌*◌, ◌/◌, ◌%◌, ◌^◌, List, [], ◌∷◌, map, Bool, cond, ◌&&◌, length, take, drop, get_or, leb, ltb, eqb}
use Rattle.laws.specs.Lists.{same_list, keep, tabulate}
use Rattle.compare.specs.Compare.{xml_uri}
use Rattle.table.specs.declared.Header.{Header}
use Rattle.table.specs.declared.Action.{Action}
use Rattle.table.specs.declared.Action.TheVariants.{Attach, Unwrap, Validate}
use Rattle.table.specs.declared.Fields.{Fields}
use Rattle.table.specs.declared.Rule.{Rule}

-- "Header, 8 bits each: N namespaces, M modes, S schemas, R rules". A byte that is not there is 0
abbrev pub header_of : List ℕ → Header
header_of t = record { namespaces = get_or t 0 0; modes = get_or t 1 0; schemas = get_or t 2 0; rules = get_or t 3 0 }

-- "Bit-packed, most significant bit first": four bytes as a number
abbrev pub word_of : ℕ → ℕ → ℕ → ℕ → ℕ
word_of a b c d = a * 2 ^ 24 + b * 2 ^ 16 + c * 2 ^ 8 + d

-- "Then R rules of 32 bits": the i-th, from 0
abbrev pub word_at : List ℕ → ℕ → ℕ
word_at t i = word_of (get_or t (4 + 4 * i) 0) (get_or t (5 + 4 * i) 0) (get_or t (6 + 4 * i) 0) (get_or t (7 + 4 * i) 0)

abbrev pub words_of : List ℕ → Header → List ℕ
words_of t h = tabulate (word_at t) 0 h.rules

-- "mode 5, kind 1, class 8, action 2, schema 8, next mode 5, three zero bits"
abbrev pub fields_of : ℕ → Fields
fields_of w =
    record {
      mode = w / 2 ^ 27;
      kind = w / 2 ^ 26 % 2 ^ 1;
      class = w / 2 ^ 18 % 2 ^ 8;
      action = w / 2 ^ 16 % 2 ^ 2;
      schema = w / 2 ^ 8 % 2 ^ 8;
      next = w / 2 ^ 3 % 2 ^ 5;
      zeros = w % 2 ^ 3;
    }

-- "action 2 (0 attach, 1 unwrap, 2 validate)". 3 is in no accepted table; so that each number means an action, it is validate
abbrev pub action_of : ℕ → Action
action_of n = cond (eqb n 0) Attach (cond (eqb n 1) Unwrap Validate)

abbrev pub rule_of : ℕ → Rule
rule_of w =
    record {
      mode = (fields_of w).mode;
      kind = (fields_of w).kind;
      class = (fields_of w).class;
      action = action_of (fields_of w).action;
      schema = (fields_of w).schema;
      next = (fields_of w).next;
    }

-- "Then N URIs: length 8, bytes": the URIs of what stands behind the rules; one that the table cuts, and all behind it, are none
unfoldable pub uris_from : ℕ → List ℕ → List (List ℕ)
uris_from zero l = []
uris_from (suc n) [] = []
uris_from (suc n) (k ∷ l) = cond (leb k (length l)) (take k l ∷ uris_from n (drop k l)) []

abbrev pub uris_of : List ℕ → Header → List (List ℕ)
uris_of t h = uris_from h.namespaces (drop (4 + 4 * h.rules) t)

-- "255 in a rule means any"
abbrev pub any_class : ℕ
any_class = 255

-- the rules of a mode and a kind that have this in their class field
abbrev pub names_class : ℕ → ℕ → ℕ → Rule → Bool
names_class mode kind class r = eqb r.mode mode && (eqb r.kind kind && eqb r.class class)

-- the first list, or where it is empty the second
abbrev pub or_else : List Rule → List Rule → List Rule
or_else [] other = other
or_else (r ∷ rs) other = r ∷ rs

-- "the rules of (its mode, kind, class): those naming the class if there is one, else those naming any", in table order
unfoldable pub rules_of : List Rule → ℕ → ℕ → ℕ → List Rule
rules_of rules mode kind class = or_else (keep (names_class mode kind class) rules) (keep (names_class mode kind any_class) rules)

-- What is done with a section for which there is no rule: an action, and for validate a schema
pub record Default : Type 0 where
  pub action : Action
  pub schema : ℕ

-- of an element section, and of an attribute section
pub record Defaults : Type 0 where
  pub element : Default
  pub attribute : Default

-- N3: "Where a mode has no rule for an element section, it is validated against reject; for an attribute section, it is attached. Reject is schema
-- 255, whatever S is"
abbrev pub standard : Defaults
standard = record { element = record { action = Validate; schema = 255 }; attribute = record { action = Attach; schema = 0 } }

-- Before N3. "No rule: one unwrap strand, same mode"; of an attribute section "otherwise they are not kept"
abbrev pub former : Defaults
former = record { element = record { action = Unwrap; schema = 0 }; attribute = record { action = Unwrap; schema = 0 } }

-- What a strand takes where no rule is taken, of a kind, in its mode: "the mode stays"
abbrev pub fallback : Default → ℕ → ℕ → Rule
fallback d kind mode = record { mode = mode; kind = kind; class = any_class; action = d.action; schema = d.schema; next = mode }

-- the rules that a strand takes in a mode, of a kind, for a class. "Modes are below M": in any other it takes none
unfoldable pub taken_of : Header → List Rule → Default → ℕ → ℕ → ℕ → List Rule
taken_of h rules d kind mode class = cond (ltb mode h.modes) (or_else (rules_of rules mode kind class) (fallback d kind mode ∷ [])) []

-- A table as everything above this layer sees it: what is taken in a mode for a class, at an element section and at an attribute section
pub record Table : Type 0 where
  pub modes : ℕ
  pub uris : List (List ℕ)
  pub element_rules : ℕ → ℕ → List Rule
  pub attribute_rules : ℕ → ℕ → List Rule

-- the rules of a table with this header
abbrev pub all_rules : List ℕ → Header → List Rule
all_rules t h = map rule_of (words_of t h)

-- a table with this header, under these defaults
abbrev pub table_by : Defaults → List ℕ → Header → Table
table_by d t h =
    record {
      modes = h.modes;
      uris = uris_of t h;
      element_rules = taken_of h (all_rules t h) d.element 0;
      attribute_rules = taken_of h (all_rules t h) d.attribute 1;
    }

abbrev pub decode_by : Defaults → List ℕ → Table
decode_by d t = table_by d t (header_of t)

-- "Streams are compared with the model under these defaults from here on": the standard's
abbrev pub table_of : List ℕ → Header → Table
table_of = table_by standard

abbrev pub decode : List ℕ → Table
decode = decode_by standard

-- the place of a URI in a list, its first place being k; 255 where it is not there
unfoldable pub listed_from : List (List ℕ) → ℕ → List ℕ → ℕ
listed_from [] k uri = 255
listed_from (u ∷ us) k uri = cond (same_list u uri) k (listed_from us (k + 1) uri)

-- "Class: 0 no namespace; 1 to N listed; 254 the namespace of prefix xml; 255 in a record an unlisted URI". No namespace is the empty URI
unfoldable pub class_of : Table → List ℕ → ℕ
class_of t uri = cond (eqb (length uri) 0) 0 (cond (same_list uri xml_uri) 254 (listed_from t.uris 1 uri))
