-- Worked examples, by computation: document 01's tables T and T2, and tables that judge refuses. Each would fail for the slip that it names.
use Rattle.std.specs.Prelude.{ℕ, ◌+◌, ◌*◌, ◌/◌, ◌%◌, ◌≡◌, refl, List, [], ◌∷◌, ◌++◌, map, true, false, length}
use Rattle.laws.specs.Text.{bytes}
use Rattle.compare.specs.Compare.{xml_uri, xmlns_uri}
use Rattle.table.specs.Table.{former, decode_by, decode, class_of}
use Rattle.table.specs.Judge.{judged, said, Accepted}
use Rattle.table.specs.declared.Action.{Action}
use Rattle.table.specs.declared.Action.TheVariants.{Attach, Unwrap, Validate}
use Rattle.table.specs.declared.Rule.{Rule}
use Rattle.table.specs.Computing.{computing}

-- T is 01 02 01 01 00 06 00 08 01 75
abbrev pub T : List ℕ
T = 0x01 ∷ 0x02 ∷ 0x01 ∷ 0x01 ∷ 0x00 ∷ 0x06 ∷ 0x00 ∷ 0x08 ∷ 0x01 ∷ 0x75 ∷ []

-- the four bytes of a rule
abbrev pub rule_bytes : ℕ → ℕ → ℕ → ℕ → ℕ → ℕ → List ℕ
rule_bytes mode kind class action schema next =
    (mode * 8 + kind * 4 + class / 64) ∷ (class % 64 * 4 + action) ∷ schema ∷ (next * 8) ∷ []

-- a URI and its length
abbrev pub listed : List ℕ → List ℕ
listed uri = length uri ∷ uri

-- T2: mode 0 element 1 validate 0; mode 1 element 2 validate 1; the same attach; mode 1 any element unwrap; next mode 1 throughout
abbrev pub T2 : List ℕ
T2 =
    (2 ∷ 2 ∷ 2 ∷ 4 ∷ [])
    ++ rule_bytes 0 0 1 2 0 1
    ++ rule_bytes 1 0 2 2 1 1
    ++ rule_bytes 1 0 2 0 0 1
    ++ rule_bytes 1 0 255 1 0 1
    ++ listed (bytes "u")
    ++ listed (bytes "v")

-- a table with these rules, 2 modes, 1 schema and no URI
abbrev joined : List (List ℕ) → List ℕ
joined [] = []
joined (r ∷ rs) = r ++ joined rs

abbrev ruled : List (List ℕ) → List ℕ
ruled rules = 0 ∷ 2 ∷ 1 ∷ length rules ∷ joined rules

-- E8: judge counts no events and no records
T-accepted : (judged T ≡ record { number = 0; place = 10; events = 0; records = 0 }) × (Accepted T ≡ true)
unfolding computing
T-accepted = (refl, refl)

T2-accepted : judged T2 ≡ said 0 24
unfolding computing
T2-accepted = refl

-- A1: the length is judged before an empty URI
empty_uri : judged (0x01 ∷ 0x01 ∷ 0x00 ∷ 0x00 ∷ 0x00 ∷ []) ≡ said 11 0
unfolding computing
empty_uri = refl

empty_uri_and_more : judged (0x01 ∷ 0x01 ∷ 0x00 ∷ 0x00 ∷ 0x00 ∷ 0x75 ∷ []) ≡ said 10 0
unfolding computing
empty_uri_and_more = refl

no_uri : judged (0x01 ∷ 0x01 ∷ 0x00 ∷ 0x00 ∷ []) ≡ said 10 0
unfolding computing
no_uri = refl

-- the header is judged before the length, and the first four bytes before the header
no_mode : judged (0x00 ∷ 0x00 ∷ 0x00 ∷ 0x00 ∷ 0xFF ∷ []) ≡ said 11 0
unfolding computing
no_mode = refl

too_short : (judged (0xFF ∷ 0xFF ∷ 0xFF ∷ []) ≡ said 10 0) × (Accepted (0xFF ∷ 0xFF ∷ 0xFF ∷ []) ≡ false)
unfolding computing
too_short = (refl, refl)

-- each count of the header at its largest, which the length then refuses; one more
header_limits : map (λ (t : List ℕ). (judged t).number) ((30 ∷ 32 ∷ 64 ∷ 128 ∷ []) ∷ (31 ∷ 32 ∷ 64 ∷ 128 ∷ []) ∷ (30 ∷ 33 ∷ 64 ∷ 128 ∷ []) ∷ (30 ∷ 32 ∷ 65 ∷ 128 ∷ []) ∷ (30 ∷ 32 ∷ 64 ∷ 129 ∷ []) ∷ []) ≡ 10 ∷ 11 ∷ 11 ∷ 11 ∷ 11 ∷ []
unfolding computing
header_limits = refl

-- a rule and a URI that the table cuts
rule_cut : judged (0 ∷ 1 ∷ 0 ∷ 1 ∷ 0 ∷ 0 ∷ 0 ∷ []) ≡ said 10 0
unfolding computing
rule_cut = refl

uri_cut : judged (1 ∷ 1 ∷ 0 ∷ 0 ∷ 2 ∷ 0x75 ∷ []) ≡ said 10 0
unfolding computing
uri_cut = refl

-- A2: rules that differ in their next mode alone are not repeated; A3: an attribute rule's next mode is in range, and need not be 0
two_units : judged (ruled (rule_bytes 0 1 255 2 0 0 ∷ rule_bytes 0 1 255 2 0 1 ∷ [])) ≡ said 0 12
unfolding computing
two_units = refl

repeated : judged (ruled (rule_bytes 0 1 255 2 0 1 ∷ rule_bytes 0 1 255 2 0 1 ∷ [])) ≡ said 12 0
unfolding computing
repeated = refl

next_past_the_modes : judged (ruled (rule_bytes 0 1 255 2 0 2 ∷ [])) ≡ said 11 0
unfolding computing
next_past_the_modes = refl

-- a mode past the modes; 11 goes before 12
mode_past_the_modes : judged (ruled (rule_bytes 2 0 0 1 0 0 ∷ rule_bytes 2 0 0 1 0 0 ∷ [])) ≡ said 11 0
unfolding computing
mode_past_the_modes = refl

-- A4: validate without a schema; attach or unwrap with one
no_schema : judged (0 ∷ 1 ∷ 0 ∷ 1 ∷ rule_bytes 0 0 0 2 0 0) ≡ said 11 0
unfolding computing
no_schema = refl

attach_with_a_schema : judged (0 ∷ 1 ∷ 2 ∷ 1 ∷ rule_bytes 0 0 0 0 1 0) ≡ said 11 0
unfolding computing
attach_with_a_schema = refl

unwrap_with_a_schema : judged (0 ∷ 1 ∷ 2 ∷ 1 ∷ rule_bytes 0 0 0 1 1 0) ≡ said 11 0
unfolding computing
unwrap_with_a_schema = refl

-- action 3; each zero bit set; a class that is not listed
action_3 : judged (ruled (rule_bytes 0 0 0 3 0 0 ∷ [])) ≡ said 11 0
unfolding computing
action_3 = refl

zero_bits : map (λ (b : ℕ). (judged (ruled ((0 ∷ 0 ∷ 0 ∷ b ∷ []) ∷ []))).number) (0 ∷ 1 ∷ 2 ∷ 4 ∷ []) ≡ 0 ∷ 11 ∷ 11 ∷ 11 ∷ []
unfolding computing
zero_bits = refl

class_253 : judged (ruled (rule_bytes 0 0 253 1 0 0 ∷ [])) ≡ said 11 0
unfolding computing
class_253 = refl

class_past_the_uris : judged (1 ∷ 1 ∷ 0 ∷ 1 ∷ rule_bytes 0 0 2 1 0 0 ++ listed (bytes "u")) ≡ said 11 0
unfolding computing
class_past_the_uris = refl

-- A5: the URI of xmlns may be listed, that of xml may not, nor one twice
xmlns_listed : judged (1 ∷ 1 ∷ 0 ∷ 0 ∷ listed xmlns_uri) ≡ said 0 34
unfolding computing
xmlns_listed = refl

xml_listed : judged (1 ∷ 1 ∷ 0 ∷ 0 ∷ listed xml_uri) ≡ said 12 0
unfolding computing
xml_listed = refl

uri_twice : judged (3 ∷ 1 ∷ 0 ∷ 0 ∷ listed (bytes "u") ++ listed (bytes "v") ++ listed (bytes "u")) ≡ said 12 0
unfolding computing
uri_twice = refl

-- A6: attach and unwrap, or attach twice, for one mode, kind and class; not so for class 0 and any, for another mode or kind
attach_and_unwrap : judged (ruled (rule_bytes 0 0 0 0 0 0 ∷ rule_bytes 0 0 0 1 0 1 ∷ [])) ≡ said 12 0
unfolding computing
attach_and_unwrap = refl

attach_twice : judged (ruled (rule_bytes 0 0 0 0 0 0 ∷ rule_bytes 0 0 0 0 0 1 ∷ [])) ≡ said 12 0
unfolding computing
attach_twice = refl

attach_elsewhere : judged (ruled (rule_bytes 0 0 0 0 0 0 ∷ rule_bytes 1 0 0 0 0 0 ∷ rule_bytes 0 1 0 0 0 0 ∷ [])) ≡ said 0 16
unfolding computing
attach_elsewhere = refl

attach_and_unwrap_any : judged (ruled (rule_bytes 0 0 0 0 0 0 ∷ rule_bytes 0 0 255 1 0 1 ∷ [])) ≡ said 0 12
unfolding computing
attach_and_unwrap_any = refl

abbrev rule : ℕ → ℕ → ℕ → Action → ℕ → ℕ → Rule
rule m k c a s n = record { mode = m; kind = k; class = c; action = a; schema = s; next = n }

-- every field in all its bits: 11111 1 11111110 10 00111111 11110 000
abbrev wide : List ℕ
wide = 0 ∷ 32 ∷ 64 ∷ 1 ∷ 0xFF ∷ 0xFA ∷ 0x3F ∷ 0xF0 ∷ []

wide_fields : (judged wide ≡ said 0 8) × ((decode wide).attribute_rules 31 254 ≡ rule 31 1 254 Validate 63 30 ∷ [])
unfolding computing
wide_fields = (refl, refl)

-- of T2 a naming rule hides the any rule beside it; any takes every other class, 0 and 254 too (A7)
naming : (decode T2).element_rules 1 2 ≡ rule 1 0 2 Validate 1 1 ∷ rule 1 0 2 Attach 0 1 ∷ []
unfolding computing
naming = refl

any_for_none : (decode T2).element_rules 1 0 ≡ rule 1 0 255 Unwrap 0 1 ∷ []
unfolding computing
any_for_none = refl

any_for_xml : (decode T2).element_rules 1 254 ≡ rule 1 0 255 Unwrap 0 1 ∷ []
unfolding computing
any_for_xml = refl

-- N3-1: another mode, another kind: the default, in the strand's mode; N3-8: whatever S is; a mode that the table lacks takes nothing
no_rule_lem : ((decode T2).element_rules 0 2 ≡ rule 0 0 255 Validate 255 0 ∷ []) × ((decode T).element_rules 1 1 ≡ rule 1 0 255 Validate 255 1 ∷ [])
unfolding computing
no_rule_lem = (refl, refl)

no_rule_for_attributes : (decode T2).attribute_rules 1 2 ≡ rule 1 1 255 Attach 0 1 ∷ []
unfolding computing
no_rule_for_attributes = refl

reject_without_schemas : (decode (0 ∷ 1 ∷ 0 ∷ 0 ∷ [])).element_rules 0 0 ≡ rule 0 0 255 Validate 255 0 ∷ []
unfolding computing
reject_without_schemas = refl

mode_lacking : ((decode T2).element_rules 2 2 ≡ []) × ((decode T2).attribute_rules 2 2 ≡ [])
unfolding computing
mode_lacking = (refl, refl)

-- before N3
no_rule_before : ((decode_by former T).element_rules 1 1 ≡ rule 1 0 255 Unwrap 0 1 ∷ []) × ((decode_by former T2).attribute_rules 1 2 ≡ rule 1 1 255 Unwrap 0 1 ∷ [])
unfolding computing
no_rule_before = (refl, refl)

-- A7: one naming rule, even unwrap, hides every any rule
unwrap_hides : (decode (ruled (rule_bytes 0 0 255 2 0 0 ∷ rule_bytes 0 0 0 1 0 0 ∷ rule_bytes 0 0 255 0 0 0 ∷ []))).element_rules 0 0 ≡ rule 0 0 0 Unwrap 0 0 ∷ []
unfolding computing
unwrap_hides = refl

-- C0: the empty URI, a listed one, xml's, another
class_of_none : class_of (decode T2) [] ≡ 0
unfolding computing
class_of_none = refl

class_of_v : class_of (decode T2) (bytes "v") ≡ 2
unfolding computing
class_of_v = refl

class_of_xml : class_of (decode T2) xml_uri ≡ 254
unfolding computing
class_of_xml = refl

class_of_another : class_of (decode T2) (bytes "uv") ≡ 255
unfolding computing
class_of_another = refl
