-- Worked examples, by computation, of request N3: sections for which no rule is taken. Tables and records are the request's vectors.
use Rattle.std.specs.Prelude.{ℕ, ◌≡◌, refl, List, [], ◌∷◌}
use Rattle.laws.specs.Text.{bytes}
use Rattle.table.specs.Table.{Table, former, decode_by, decode}
use Rattle.table.specs.Judge.{judged, said}
use Rattle.table.specs.Examples.{T, T2, rule_bytes}
use Rattle.model.specs.Examples.{Row, row, model_by, stream_by}
use Rattle.model.specs.Computing.{computing}

-- the model and the stream give these records, event by event
abbrev Gives : Table → List ℕ → List (List Row) → Type 0
Gives t s rows = (model_by t s ≡ rows) × (stream_by t s ≡ rows)

-- N3-1: mode 0 of T has a rule, for u, and none for no namespace: sample C. N3-9: the open has no span but its offset
sample_c : Gives (decode T) (bytes "<r/>") (
    (row 0 0 255 0 0 0 0 ∷ row 0 1 0 1 1 0 0 ∷ [])
    ∷ (row 0 5 0 1 1 0 0 ∷ row 0 6 0 0 0 0 0 ∷ [])
    ∷ [])
unfolding computing
sample_c = (refl, refl)

-- N3-1, N3-9: an unlisted namespace: its URI span is in the start and not in the open
unlisted : Gives (decode T) (bytes "<r xmlns=\"q\"/>") (
    (row 0 0 255 0 0 0 0 ∷ row 0 1 255 1 1 10 1 ∷ [])
    ∷ (row 0 5 255 1 1 10 1 ∷ row 0 6 0 0 0 0 0 ∷ [])
    ∷ [])
unfolding computing
unlisted = (refl, refl)

-- one mode, no rule, no schema
abbrev pub E0 : List ℕ
E0 = 0x00 ∷ 0x01 ∷ 0x00 ∷ 0x00 ∷ []

-- N3-3: a reject unit gets its section's elements and texts; N3-8: also where S is 0
no_rule_at_all : Gives (decode E0) (bytes "<r>t<x/><y xmlns=\"q\">s</y></r>") (
    (row 0 0 255 0 0 0 0 ∷ row 0 1 0 1 1 0 0 ∷ [])
    ∷ (row 0 4 0 3 1 0 0 ∷ [])
    ∷ (row 0 1 0 5 1 0 0 ∷ [])
    ∷ (row 0 5 0 5 1 0 0 ∷ [])
    ∷ (row 1 0 255 8 0 0 0 ∷ row 1 1 255 9 1 18 1 ∷ [])
    ∷ (row 1 4 0 21 1 0 0 ∷ [])
    ∷ (row 1 5 255 24 1 18 1 ∷ row 1 6 0 0 0 0 0 ∷ [])
    ∷ (row 0 5 0 28 1 0 0 ∷ row 0 6 0 0 0 0 0 ∷ [])
    ∷ [])
unfolding computing
no_rule_at_all = (refl, refl)

-- N3-8: where S is 64 too; and no rule has schema 255
no_schema_of_a_rule :
    Gives (decode (0 ∷ 1 ∷ 64 ∷ 0 ∷ [])) (bytes "<r/>") ((row 0 0 255 0 0 0 0 ∷ row 0 1 0 1 1 0 0 ∷ []) ∷ (row 0 5 0 1 1 0 0 ∷ row 0 6 0 0 0 0 0 ∷ []) ∷ [])
    × (judged (0 ∷ 1 ∷ 64 ∷ 1 ∷ rule_bytes 0 0 255 2 255 0) ≡ said 11 0)
unfolding computing
no_schema_of_a_rule = ((refl, refl), refl)

-- N3-4: the mode stays. A rejected section inside one has a unit of its own; mode 1 has no rule for u
reject_inside_reject : Gives (decode T) (bytes "<r xmlns=\"u\"><w xmlns=\"q\"><x xmlns=\"u\"/></w></r>") (
    (row 0 0 0 0 0 0 0 ∷ row 0 1 1 1 1 0 0 ∷ [])
    ∷ (row 1 0 255 13 0 0 0 ∷ row 1 1 255 14 1 23 1 ∷ [])
    ∷ (row 2 0 255 26 0 0 0 ∷ row 2 1 1 27 1 0 0 ∷ [])
    ∷ (row 2 5 1 27 1 0 0 ∷ row 2 6 0 0 0 0 0 ∷ [])
    ∷ (row 1 5 255 42 1 23 1 ∷ row 1 6 0 0 0 0 0 ∷ [])
    ∷ (row 0 5 1 46 1 0 0 ∷ row 0 6 0 0 0 0 0 ∷ [])
    ∷ [])
unfolding computing
reject_inside_reject = (refl, refl)

-- v attached
abbrev A1 : List ℕ
A1 = 0x01 ∷ 0x01 ∷ 0x00 ∷ 0x01 ∷ 0x00 ∷ 0x04 ∷ 0x00 ∷ 0x00 ∷ 0x01 ∷ 0x76 ∷ []

-- N3-3: attach finds the reject unit as its target
reject_as_target : Gives (decode A1) (bytes "<r xmlns=\"u\">a<x xmlns=\"v\">b</x></r>") (
    (row 0 0 255 0 0 0 0 ∷ row 0 1 255 1 1 10 1 ∷ [])
    ∷ (row 0 4 0 13 1 0 0 ∷ [])
    ∷ (row 0 1 1 15 1 0 0 ∷ [])
    ∷ (row 0 4 0 27 1 0 0 ∷ [])
    ∷ (row 0 5 1 30 1 0 0 ∷ [])
    ∷ (row 0 5 255 34 1 10 1 ∷ row 0 6 0 0 0 0 0 ∷ [])
    ∷ [])
unfolding computing
reject_as_target = (refl, refl)

-- mode 0: u validated, next 1; mode 1: v unwrapped, w attached
abbrev A2 : List ℕ
A2 = 0x03 ∷ 0x02 ∷ 0x01 ∷ 0x03 ∷ 0x00 ∷ 0x06 ∷ 0x00 ∷ 0x08 ∷ 0x08 ∷ 0x09 ∷ 0x00 ∷ 0x08 ∷ 0x08 ∷ 0x0C ∷ 0x00 ∷ 0x08 ∷ 0x01 ∷ 0x75 ∷ 0x01 ∷ 0x76 ∷ 0x01 ∷ 0x77 ∷ []

-- N3-5: with z of u, w is attached to unit 0; with z rejected, that target is left, and unwrap passes unit 1 on
target_stays : Gives (decode A2) (bytes "<r xmlns=\"u\"><z><v xmlns=\"v\"><w xmlns=\"w\"/></v></z></r>") (
    (row 0 0 0 0 0 0 0 ∷ row 0 1 1 1 1 0 0 ∷ [])
    ∷ (row 0 1 1 14 1 0 0 ∷ [])
    ∷ []
    ∷ (row 0 1 3 30 1 0 0 ∷ [])
    ∷ (row 0 5 3 30 1 0 0 ∷ [])
    ∷ []
    ∷ (row 0 5 1 49 1 0 0 ∷ [])
    ∷ (row 0 5 1 53 1 0 0 ∷ row 0 6 0 0 0 0 0 ∷ [])
    ∷ [])
unfolding computing
target_stays = (refl, refl)

target_left : Gives (decode A2) (bytes "<r xmlns=\"u\"><z xmlns=\"q\"><v xmlns=\"v\"><w xmlns=\"w\"/></v></z></r>") (
    (row 0 0 0 0 0 0 0 ∷ row 0 1 1 1 1 0 0 ∷ [])
    ∷ (row 1 0 255 13 0 0 0 ∷ row 1 1 255 14 1 23 1 ∷ [])
    ∷ []
    ∷ (row 1 1 3 40 1 0 0 ∷ [])
    ∷ (row 1 5 3 40 1 0 0 ∷ [])
    ∷ []
    ∷ (row 1 5 255 59 1 23 1 ∷ row 1 6 0 0 0 0 0 ∷ [])
    ∷ (row 0 5 1 63 1 0 0 ∷ row 0 6 0 0 0 0 0 ∷ [])
    ∷ [])
unfolding computing
target_left = (refl, refl)

-- mode 0: any element validated, next 0, and again, next 1; mode 1 has no rule
abbrev pub A3 : List ℕ
A3 = 0x00 ∷ 0x02 ∷ 0x01 ∷ 0x02 ∷ 0x03 ∷ 0xFE ∷ 0x00 ∷ 0x00 ∷ 0x03 ∷ 0xFE ∷ 0x00 ∷ 0x08 ∷ []

-- N3-2: at x one strand meets two rules, the other none
per_strand : Gives (decode A3) (bytes "<r xmlns=\"u\"><x xmlns=\"q\"/></r>") (
    (row 0 0 0 0 0 0 0 ∷ row 0 1 255 1 1 10 1 ∷ row 1 0 0 0 0 0 0 ∷ row 1 1 255 1 1 10 1 ∷ [])
    ∷ (row 2 0 0 13 0 0 0 ∷ row 2 1 255 14 1 23 1 ∷ row 3 0 0 13 0 0 0 ∷ row 3 1 255 14 1 23 1 ∷ row 4 0 255 13 0 0 0 ∷ row 4 1 255 14 1 23 1 ∷ [])
    ∷ (row 2 5 255 14 1 23 1 ∷ row 2 6 0 0 0 0 0 ∷ row 3 5 255 14 1 23 1 ∷ row 3 6 0 0 0 0 0 ∷ row 4 5 255 14 1 23 1 ∷ row 4 6 0 0 0 0 0 ∷ [])
    ∷ (row 0 5 255 29 1 10 1 ∷ row 0 6 0 0 0 0 0 ∷ row 1 5 255 29 1 10 1 ∷ row 1 6 0 0 0 0 0 ∷ [])
    ∷ [])
unfolding computing
per_strand = (refl, refl)

-- mode 0: any element unwrapped, next 1
abbrev A4 : List ℕ
A4 = 0x00 ∷ 0x02 ∷ 0x00 ∷ 0x01 ∷ 0x03 ∷ 0xFD ∷ 0x00 ∷ 0x08 ∷ []

-- N3-1: each mode by itself: the root is unwrapped, x below it rejected
below_unwrapped : Gives (decode A4) (bytes "<r>a<x xmlns=\"q\">b</x></r>") (
    []
    ∷ []
    ∷ (row 0 0 255 4 0 0 0 ∷ row 0 1 255 5 1 14 1 ∷ [])
    ∷ (row 0 4 0 17 1 0 0 ∷ [])
    ∷ (row 0 5 255 20 1 14 1 ∷ row 0 6 0 0 0 0 0 ∷ [])
    ∷ []
    ∷ [])
unfolding computing
below_unwrapped = (refl, refl)

-- N3-7: attribute sections without a rule are attached, and open no unit
attached_by_default : Gives (decode T) (bytes "<r xmlns=\"u\" xmlns:p=\"q\" p:a=\"1\" b=\"2\" xml:c=\"3\"/>") (
    (row 0 0 0 0 0 0 0 ∷ row 0 1 1 1 1 0 0 ∷ row 0 2 255 27 1 22 1 ∷ row 0 3 0 30 1 0 0 ∷ row 0 2 0 33 1 0 0 ∷ row 0 3 0 36 1 0 0 ∷ row 0 2 254 43 1 0 0 ∷ row 0 3 0 46 1 0 0 ∷ [])
    ∷ (row 0 5 1 1 1 0 0 ∷ row 0 6 0 0 0 0 0 ∷ [])
    ∷ [])
unfolding computing
attached_by_default = (refl, refl)

-- any element unwrapped
abbrev pub A5 : List ℕ
A5 = 0x00 ∷ 0x01 ∷ 0x00 ∷ 0x01 ∷ 0x03 ∷ 0xFD ∷ 0x00 ∷ 0x00 ∷ []

-- N3-7, D6: under unwrap nothing is written of them
attached_under_unwrap : Gives (decode A5) (bytes "<r xmlns:p=\"q\" p:a=\"\"/>") ([] ∷ [] ∷ [])
unfolding computing
attached_under_unwrap = (refl, refl)

-- any element validated by schema 0, attributes of u by schema 1
abbrev pub A6 : List ℕ
A6 = 0x01 ∷ 0x01 ∷ 0x02 ∷ 0x02 ∷ 0x03 ∷ 0xFE ∷ 0x00 ∷ 0x00 ∷ 0x04 ∷ 0x06 ∷ 0x01 ∷ 0x00 ∷ 0x01 ∷ 0x75 ∷ []

-- N3-7: a rule that is taken turns the default off for its section: those of u are validated only, those of q attached
default_off : Gives (decode A6) (bytes "<r xmlns:p=\"u\" xmlns:s=\"q\" p:a=\"\" s:b=\"\"/>") (
    (row 0 0 1 0 1 0 0 ∷ row 0 1 253 0 0 0 0 ∷ row 0 2 1 29 1 0 0 ∷ row 0 3 0 32 0 0 0 ∷ row 0 5 253 0 0 0 0 ∷ row 0 6 0 0 0 0 0 ∷ row 1 0 0 0 0 0 0 ∷ row 1 1 0 1 1 0 0 ∷ row 1 2 255 36 1 24 1 ∷ row 1 3 0 39 0 0 0 ∷ [])
    ∷ (row 1 5 0 1 1 0 0 ∷ row 1 6 0 0 0 0 0 ∷ [])
    ∷ [])
unfolding computing
default_off = (refl, refl)

-- any element validated, any attribute unwrapped
abbrev A7 : List ℕ
A7 = 0x00 ∷ 0x01 ∷ 0x01 ∷ 0x02 ∷ 0x03 ∷ 0xFE ∷ 0x00 ∷ 0x00 ∷ 0x07 ∷ 0xFD ∷ 0x00 ∷ 0x00 ∷ []

-- N3-7: so does unwrap
unwrap_keeps_none : Gives (decode A7) (bytes "<r xml:a=\"\"/>") (
    (row 0 0 0 0 0 0 0 ∷ row 0 1 0 1 1 0 0 ∷ [])
    ∷ (row 0 5 0 1 1 0 0 ∷ row 0 6 0 0 0 0 0 ∷ [])
    ∷ [])
unfolding computing
unwrap_keeps_none = (refl, refl)

-- any attribute validated
abbrev A8 : List ℕ
A8 = 0x00 ∷ 0x01 ∷ 0x01 ∷ 0x01 ∷ 0x07 ∷ 0xFE ∷ 0x00 ∷ 0x00 ∷ []

-- N3-6: a rejected element's attributes go by its strand's mode; N3-3: its unit is numbered after theirs
rejected_with_attributes : Gives (decode A8) (bytes "<r xml:a=\"\"/>") (
    (row 0 0 0 0 1 0 0 ∷ row 0 1 253 0 0 0 0 ∷ row 0 2 254 7 1 0 0 ∷ row 0 3 0 10 0 0 0 ∷ row 0 5 253 0 0 0 0 ∷ row 0 6 0 0 0 0 0 ∷ row 1 0 255 0 0 0 0 ∷ row 1 1 0 1 1 0 0 ∷ [])
    ∷ (row 1 5 0 1 1 0 0 ∷ row 1 6 0 0 0 0 0 ∷ [])
    ∷ [])
unfolding computing
rejected_with_attributes = (refl, refl)

-- N3-1: each kind by itself: a rule for any attribute is none for an element
kind_by_itself : Gives (decode A8) (bytes "<r/>") (
    (row 0 0 255 0 0 0 0 ∷ row 0 1 0 1 1 0 0 ∷ [])
    ∷ (row 0 5 0 1 1 0 0 ∷ row 0 6 0 0 0 0 0 ∷ [])
    ∷ [])
unfolding computing
kind_by_itself = (refl, refl)

-- Tables with one rule more for each mode and kind that lacks an any rule: any, unwrap, next mode its own
abbrev pub T+ : List ℕ
T+ = 0x01 ∷ 0x02 ∷ 0x01 ∷ 0x05 ∷ 0x00 ∷ 0x06 ∷ 0x00 ∷ 0x08 ∷ 0x03 ∷ 0xFD ∷ 0x00 ∷ 0x00 ∷ 0x07 ∷ 0xFD ∷ 0x00 ∷ 0x00 ∷ 0x0B ∷ 0xFD ∷ 0x00 ∷ 0x08 ∷ 0x0F ∷ 0xFD ∷ 0x00 ∷ 0x08 ∷ 0x01 ∷ 0x75 ∷ []

abbrev pub T2+ : List ℕ
T2+ = 0x02 ∷ 0x02 ∷ 0x02 ∷ 0x07 ∷ 0x00 ∷ 0x06 ∷ 0x00 ∷ 0x08 ∷ 0x08 ∷ 0x0A ∷ 0x01 ∷ 0x08 ∷ 0x08 ∷ 0x08 ∷ 0x00 ∷ 0x08 ∷ 0x0B ∷ 0xFD ∷ 0x00 ∷ 0x08 ∷ 0x03 ∷ 0xFD ∷ 0x00 ∷ 0x00 ∷ 0x07 ∷ 0xFD ∷ 0x00 ∷ 0x00 ∷ 0x0F ∷ 0xFD ∷ 0x00 ∷ 0x08 ∷ 0x01 ∷ 0x75 ∷ 0x01 ∷ 0x76 ∷ []

abbrev pub A6+ : List ℕ
A6+ = 0x01 ∷ 0x01 ∷ 0x02 ∷ 0x03 ∷ 0x03 ∷ 0xFE ∷ 0x00 ∷ 0x00 ∷ 0x04 ∷ 0x06 ∷ 0x01 ∷ 0x00 ∷ 0x07 ∷ 0xFD ∷ 0x00 ∷ 0x00 ∷ 0x01 ∷ 0x75 ∷ []

abbrev pub A3+ : List ℕ
A3+ = 0x00 ∷ 0x02 ∷ 0x01 ∷ 0x05 ∷ 0x03 ∷ 0xFE ∷ 0x00 ∷ 0x00 ∷ 0x03 ∷ 0xFE ∷ 0x00 ∷ 0x08 ∷ 0x07 ∷ 0xFD ∷ 0x00 ∷ 0x00 ∷ 0x0B ∷ 0xFD ∷ 0x00 ∷ 0x08 ∷ 0x0F ∷ 0xFD ∷ 0x00 ∷ 0x08 ∷ []

-- t under the former defaults, and t+ under the standard's, give these records
abbrev Formerly : List ℕ → List ℕ → List ℕ → List (List Row) → Type 0
Formerly t t+ s rows = Gives (decode_by former t) s rows × Gives (decode t+) s rows

-- sample C before the request
former_c : Formerly T T+ (bytes "<r/>") ([] ∷ [] ∷ [])
unfolding computing
former_c = ((refl, refl), (refl, refl))

-- sections that were unwrapped
former_inside : Formerly T T+ (bytes "<r xmlns=\"u\"><w xmlns=\"q\">b<x xmlns=\"u\"/></w></r>") (
    (row 0 0 0 0 0 0 0 ∷ row 0 1 1 1 1 0 0 ∷ [])
    ∷ []
    ∷ []
    ∷ []
    ∷ []
    ∷ []
    ∷ (row 0 5 1 47 1 0 0 ∷ row 0 6 0 0 0 0 0 ∷ [])
    ∷ [])
unfolding computing
former_inside = ((refl, refl), (refl, refl))

-- an attribute section that was not kept
former_attribute : Formerly T T+ (bytes "<r xmlns=\"u\" xml:c=\"3\"/>") (
    (row 0 0 0 0 0 0 0 ∷ row 0 1 1 1 1 0 0 ∷ [])
    ∷ (row 0 5 1 1 1 0 0 ∷ row 0 6 0 0 0 0 0 ∷ [])
    ∷ [])
unfolding computing
former_attribute = ((refl, refl), (refl, refl))

-- T2 has an any rule for elements of mode 1
former_below : Formerly T2 T2+ (bytes "<x xmlns=\"v\"><r xmlns=\"u\" xml:a=\"\"/></x>") (
    []
    ∷ (row 0 0 0 13 0 0 0 ∷ row 0 1 1 14 1 0 0 ∷ [])
    ∷ (row 0 5 1 14 1 0 0 ∷ row 0 6 0 0 0 0 0 ∷ [])
    ∷ []
    ∷ [])
unfolding computing
former_below = ((refl, refl), (refl, refl))

-- a rule that names u, and the added one for others
former_default_off : Formerly A6 A6+ (bytes "<r xmlns:p=\"u\" xmlns:s=\"q\" p:a=\"\" s:b=\"\"/>") (
    (row 0 0 1 0 1 0 0 ∷ row 0 1 253 0 0 0 0 ∷ row 0 2 1 29 1 0 0 ∷ row 0 3 0 32 0 0 0 ∷ row 0 5 253 0 0 0 0 ∷ row 0 6 0 0 0 0 0 ∷ row 1 0 0 0 0 0 0 ∷ row 1 1 0 1 1 0 0 ∷ [])
    ∷ (row 1 5 0 1 1 0 0 ∷ row 1 6 0 0 0 0 0 ∷ [])
    ∷ [])
unfolding computing
former_default_off = ((refl, refl), (refl, refl))

-- of two strands the one that met no rule
former_per_strand : Formerly A3 A3+ (bytes "<r xmlns=\"u\"><x xmlns=\"q\"/></r>") (
    (row 0 0 0 0 0 0 0 ∷ row 0 1 255 1 1 10 1 ∷ row 1 0 0 0 0 0 0 ∷ row 1 1 255 1 1 10 1 ∷ [])
    ∷ (row 2 0 0 13 0 0 0 ∷ row 2 1 255 14 1 23 1 ∷ row 3 0 0 13 0 0 0 ∷ row 3 1 255 14 1 23 1 ∷ [])
    ∷ (row 2 5 255 14 1 23 1 ∷ row 2 6 0 0 0 0 0 ∷ row 3 5 255 14 1 23 1 ∷ row 3 6 0 0 0 0 0 ∷ [])
    ∷ (row 0 5 255 29 1 10 1 ∷ row 0 6 0 0 0 0 0 ∷ row 1 5 255 29 1 10 1 ∷ row 1 6 0 0 0 0 0 ∷ [])
    ∷ [])
unfolding computing
former_per_strand = ((refl, refl), (refl, refl))
