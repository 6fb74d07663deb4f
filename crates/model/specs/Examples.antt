-- Worked examples, by computation, on the bytes of a table and a scene: the model's records and the stream's, event by event. Each would fail
-- for the slip that it names, also where model and stream cite one definition.
use Rattle.std.specs.Prelude.{ℕ, ◌≡◌, refl, List, [], ◌∷◌, ◌++◌, map}
use Rattle.laws.specs.Text.{bytes}
use Rattle.table.specs.Table.{Table, decode}
use Rattle.table.specs.Examples.{T, T2, rule_bytes, listed}
use Rattle.reader.specs.Events.{events}
use Rattle.model.specs.Theory.{Record, holds}
use Rattle.model.specs.Tree.{completed, tree_of}
use Rattle.model.specs.Model.{cut_model, model_of}
use Rattle.model.specs.Stream.{stream_of}
use Rattle.model.specs.Records.{Body}
use Rattle.model.specs.Dispatch.{dispatch, told, piece_body, record_bytes_of}
use Rattle.model.specs.Computing.{computing}

-- A record's seven fields
pub record Row : Type 0 where
  pub unit : ℕ
  pub body : Body

abbrev pub row : ℕ → ℕ → ℕ → ℕ → ℕ → ℕ → ℕ → Row
row unit kind class at len uri_at uri_len =
    record { unit = unit; body = record { kind = kind; class = class; at = at; len = len; uri_at = uri_at; uri_len = uri_len } }

abbrev rows_of : List (Record Body ℕ) → List Row
rows_of = map (λ (r : Record Body ℕ). record { unit = r.unit; body = piece_body r.piece })

-- what the model and the stream give for a table and a scene
abbrev pub model_by : Table → List ℕ → List (List Row)
model_by t s = map rows_of (cut_model (dispatch t) (map (told t s) (events s)))

abbrev pub stream_by : Table → List ℕ → List (List Row)
stream_by t s = map rows_of (stream_of (dispatch t) (map (told t s) (events s)))

-- for a table's bytes, under the standard's defaults
abbrev model_rows : List ℕ → List ℕ → List (List Row)
model_rows t = model_by (decode t)

abbrev stream_rows : List ℕ → List ℕ → List (List Row)
stream_rows t = stream_by (decode t)

-- what the model gives with the ends that a cut adds
abbrev completed_rows : List ℕ → List ℕ → List (List Row)
completed_rows t s =
    let Θ = dispatch (decode t) in
    map rows_of (model_of Θ (tree_of Θ (completed Θ (map (told (decode t) s) (events s)))))

-- the Mealy machine of fig. 9 of document 001: ns validated; below it ns2 attributes validated, ns1 unwrapped; below that ns attached. And a rule that
-- fig. 11 does not meet: below ns any other unwrapped
abbrev figure_table : List ℕ
figure_table =
    (3 ∷ 3 ∷ 2 ∷ 5 ∷ [])
    ++ rule_bytes 0 0 1 2 0 1
    ++ rule_bytes 1 1 3 2 1 1
    ++ rule_bytes 1 0 2 1 0 2
    ++ rule_bytes 2 0 1 0 0 2
    ++ rule_bytes 1 0 255 1 0 1
    ++ listed (bytes "ns")
    ++ listed (bytes "ns1")
    ++ listed (bytes "ns2")

-- three strands at a u root, in modes 1, 2, 1; attributes: v validated and attached in mode 1, others validated there; all attached in mode 2
abbrev mixed_table : List ℕ
mixed_table =
    (2 ∷ 3 ∷ 4 ∷ 7 ∷ [])
    ++ rule_bytes 0 0 1 2 0 1
    ++ rule_bytes 0 0 1 2 1 2
    ++ rule_bytes 0 0 1 0 0 1
    ++ rule_bytes 1 1 2 2 2 0
    ++ rule_bytes 1 1 2 0 0 0
    ++ rule_bytes 1 1 255 2 3 0
    ++ rule_bytes 2 1 255 0 0 0
    ++ listed (bytes "u")
    ++ listed (bytes "v")

-- attributes validated by schema 1 in mode 0 and by schema 2 in mode 1, in which a u root is
abbrev modes_table : List ℕ
modes_table =
    (1 ∷ 2 ∷ 3 ∷ 3 ∷ [])
    ++ rule_bytes 0 0 1 2 0 1
    ++ rule_bytes 0 1 255 2 1 0
    ++ rule_bytes 1 1 255 2 2 0
    ++ listed (bytes "u")

-- every section validated
abbrev any_table : List ℕ
any_table =
    (1 ∷ 1 ∷ 1 ∷ 1 ∷ [])
    ++ rule_bytes 0 0 255 2 0 0
    ++ listed (bytes "u")

-- below a u root: v attached, any other validated
abbrev naming_table : List ℕ
naming_table =
    (2 ∷ 2 ∷ 2 ∷ 3 ∷ [])
    ++ rule_bytes 0 0 1 2 0 1
    ++ rule_bytes 1 0 2 0 0 1
    ++ rule_bytes 1 0 255 2 1 1
    ++ listed (bytes "u")
    ++ listed (bytes "v")

-- xml's namespace validated, any other unwrapped; xml's attributes validated
abbrev xml_table : List ℕ
xml_table =
    (1 ∷ 1 ∷ 2 ∷ 3 ∷ [])
    ++ rule_bytes 0 0 254 2 0 0
    ++ rule_bytes 0 0 255 1 0 0
    ++ rule_bytes 0 1 254 2 1 0
    ++ listed (bytes "u")

-- every element section validated by schema 0, every attribute section by schema 1
abbrev validating_table : List ℕ
validating_table = 0x01 ∷ 0x01 ∷ 0x02 ∷ 0x02 ∷ 0x03 ∷ 0xFE ∷ 0x00 ∷ 0x00 ∷ 0x07 ∷ 0xFE ∷ 0x01 ∷ 0x00 ∷ 0x01 ∷ 0x75 ∷ []

-- below a u root every section attached, and of its elements every attribute; of the root's attributes no section kept
abbrev attaching_table : List ℕ
attaching_table =
    (1 ∷ 3 ∷ 1 ∷ 4 ∷ [])
    ++ rule_bytes 0 0 1 2 0 1
    ++ rule_bytes 1 0 255 0 0 2
    ++ rule_bytes 1 1 255 1 0 1
    ++ rule_bytes 2 1 255 0 0 0
    ++ listed (bytes "u")

-- Sample A
abbrev sample_a_records : List (List Row)
sample_a_records =
    (row 0 0 0 0 0 0 0 ∷ row 0 1 1 1 1 0 0 ∷ [])
    ∷ (row 0 4 0 13 1 0 0 ∷ [])
    ∷ (row 0 1 1 15 1 0 0 ∷ [])
    ∷ (row 0 5 1 15 1 0 0 ∷ [])
    ∷ (row 0 5 1 20 1 0 0 ∷ row 0 6 0 0 0 0 0 ∷ [])
    ∷ []

sample_a : model_rows T (bytes "<r xmlns=\"u\">a<x/></r>") ≡ sample_a_records
unfolding computing
sample_a = refl

sample_a_streamed : stream_rows T (bytes "<r xmlns=\"u\">a<x/></r>") ≡ sample_a_records
unfolding computing
sample_a_streamed = refl

-- Sample D: x in units 1 and 0, in that order
abbrev sample_d_records : List (List Row)
sample_d_records =
    (row 0 0 0 0 0 0 0 ∷ row 0 1 1 1 1 0 0 ∷ [])
    ∷ (row 1 0 1 13 0 0 0 ∷ row 1 1 2 14 1 0 0 ∷ row 0 1 2 14 1 0 0 ∷ [])
    ∷ (row 1 5 2 14 1 0 0 ∷ row 1 6 0 0 0 0 0 ∷ row 0 5 2 14 1 0 0 ∷ [])
    ∷ (row 0 5 1 29 1 0 0 ∷ row 0 6 0 0 0 0 0 ∷ [])
    ∷ []

sample_d : model_rows T2 (bytes "<r xmlns=\"u\"><x xmlns=\"v\"/></r>") ≡ sample_d_records
unfolding computing
sample_d = refl

sample_d_streamed : stream_rows T2 (bytes "<r xmlns=\"u\"><x xmlns=\"v\"/></r>") ≡ sample_d_records
unfolding computing
sample_d_streamed = refl

-- Sample E: unit 0 gets r, a, x, c and not b, the text of the unwrapped wrapper
abbrev sample_e_records : List (List Row)
sample_e_records =
    (row 0 0 0 0 0 0 0 ∷ row 0 1 1 1 1 0 0 ∷ [])
    ∷ (row 0 4 0 13 1 0 0 ∷ [])
    ∷ []
    ∷ []
    ∷ (row 1 0 1 28 0 0 0 ∷ row 1 1 2 29 1 0 0 ∷ row 0 1 2 29 1 0 0 ∷ [])
    ∷ (row 1 5 2 29 1 0 0 ∷ row 1 6 0 0 0 0 0 ∷ row 0 5 2 29 1 0 0 ∷ [])
    ∷ []
    ∷ (row 0 4 0 46 1 0 0 ∷ [])
    ∷ (row 0 5 1 49 1 0 0 ∷ row 0 6 0 0 0 0 0 ∷ [])
    ∷ []

sample_e : model_rows T2 (bytes "<r xmlns=\"u\">a<w xmlns=\"q\">b<x xmlns=\"v\"/></w>c</r>") ≡ sample_e_records
unfolding computing
sample_e = refl

sample_e_streamed : stream_rows T2 (bytes "<r xmlns=\"u\">a<w xmlns=\"q\">b<x xmlns=\"v\"/></w>c</r>") ≡ sample_e_records
unfolding computing
sample_e_streamed = refl

-- Figs. 6 to 11: unit 0 is ex, e1, its text and e, which the unwrapped e2 held; unit 1 the virtual element with b and c
abbrev figure_11_records : List (List Row)
figure_11_records =
    (row 0 0 0 0 0 0 0 ∷ row 0 1 1 1 2 0 0 ∷ [])
    ∷ (row 1 0 1 47 1 0 0 ∷ row 1 1 253 0 0 0 0 ∷ row 1 2 3 55 1 0 0 ∷ row 1 3 0 58 1 0 0 ∷ row 1 2 3 65 1 0 0 ∷ row 1 3 0 68 1 0 0 ∷ row 1 5 253 0 0 0 0 ∷ row 1 6 0 0 0 0 0 ∷ row 0 1 1 48 2 0 0 ∷ [])
    ∷ (row 0 4 0 71 2 0 0 ∷ [])
    ∷ (row 0 5 1 75 2 0 0 ∷ [])
    ∷ []
    ∷ (row 0 1 1 87 1 0 0 ∷ [])
    ∷ (row 0 5 1 87 1 0 0 ∷ [])
    ∷ []
    ∷ (row 0 5 1 101 2 0 0 ∷ row 0 6 0 0 0 0 0 ∷ [])
    ∷ []

figure_11 : model_rows figure_table (bytes "<ex xmlns=\"ns\" xmlns:ns1=\"ns1\" xmlns:ns2=\"ns2\"><e1 ns2:b=\"b\" ns2:c=\"c\">t1</e1><ns1:e2><e/></ns1:e2></ex>") ≡ figure_11_records
unfolding computing
figure_11 = refl

figure_11_streamed : stream_rows figure_table (bytes "<ex xmlns=\"ns\" xmlns:ns1=\"ns1\" xmlns:ns2=\"ns2\"><e1 ns2:b=\"b\" ns2:c=\"c\">t1</e1><ns1:e2><e/></ns1:e2></ex>") ≡ figure_11_records
unfolding computing
figure_11_streamed = refl

-- Two attribute sections whose attributes alternate, one unlisted, and several strands: sections by first attribute, members in tag order; the units of attributes are numbered before those of the tag; each strand keeps by its own mode
abbrev interleaved_records : List (List Row)
interleaved_records =
    (row 0 0 2 0 1 0 0 ∷ row 0 1 253 0 0 0 0 ∷ row 0 2 2 43 1 0 0 ∷ row 0 3 0 46 1 0 0 ∷ row 0 2 2 65 1 0 0 ∷ row 0 3 0 68 1 0 0 ∷ row 0 5 253 0 0 0 0 ∷ row 0 6 0 0 0 0 0 ∷ row 1 0 3 0 1 0 0 ∷ row 1 1 253 0 0 0 0 ∷ row 1 2 255 51 1 38 1 ∷ row 1 3 0 54 1 0 0 ∷ row 1 5 253 0 0 0 0 ∷ row 1 6 0 0 0 0 0 ∷ row 2 0 2 0 1 0 0 ∷ row 2 1 253 0 0 0 0 ∷ row 2 2 2 43 1 0 0 ∷ row 2 3 0 46 1 0 0 ∷ row 2 2 2 65 1 0 0 ∷ row 2 3 0 68 1 0 0 ∷ row 2 5 253 0 0 0 0 ∷ row 2 6 0 0 0 0 0 ∷ row 3 0 3 0 1 0 0 ∷ row 3 1 253 0 0 0 0 ∷ row 3 2 255 51 1 38 1 ∷ row 3 3 0 54 1 0 0 ∷ row 3 5 253 0 0 0 0 ∷ row 3 6 0 0 0 0 0 ∷ row 4 0 0 0 0 0 0 ∷ row 4 1 1 3 1 0 0 ∷ row 4 2 2 43 1 0 0 ∷ row 4 3 0 46 1 0 0 ∷ row 4 2 0 57 1 0 0 ∷ row 4 3 0 60 1 0 0 ∷ row 4 2 2 65 1 0 0 ∷ row 4 3 0 68 1 0 0 ∷ row 4 2 1 73 1 0 0 ∷ row 4 3 0 76 1 0 0 ∷ row 5 0 1 0 0 0 0 ∷ row 5 1 1 3 1 0 0 ∷ row 5 2 2 43 1 0 0 ∷ row 5 3 0 46 1 0 0 ∷ row 5 2 255 51 1 38 1 ∷ row 5 3 0 54 1 0 0 ∷ row 5 2 0 57 1 0 0 ∷ row 5 3 0 60 1 0 0 ∷ row 5 2 2 65 1 0 0 ∷ row 5 3 0 68 1 0 0 ∷ row 5 2 1 73 1 0 0 ∷ row 5 3 0 76 1 0 0 ∷ [])
    ∷ (row 4 5 1 3 1 0 0 ∷ row 4 6 0 0 0 0 0 ∷ row 5 5 1 3 1 0 0 ∷ row 5 6 0 0 0 0 0 ∷ [])
    ∷ []

interleaved : model_rows mixed_table (bytes "<p:r xmlns:p=\"u\" xmlns:a=\"v\" xmlns:b=\"w\" a:i=\"1\" b:j=\"2\" k=\"3\" a:l=\"4\" p:m=\"5\"/>") ≡ interleaved_records
unfolding computing
interleaved = refl

interleaved_streamed : stream_rows mixed_table (bytes "<p:r xmlns:p=\"u\" xmlns:a=\"v\" xmlns:b=\"w\" a:i=\"1\" b:j=\"2\" k=\"3\" a:l=\"4\" p:m=\"5\"/>") ≡ interleaved_records
unfolding computing
interleaved_streamed = refl

-- The strand's own mode for attributes, not the parent's: schema 2
abbrev own_mode_records : List (List Row)
own_mode_records =
    (row 0 0 2 0 1 0 0 ∷ row 0 1 253 0 0 0 0 ∷ row 0 2 255 27 1 22 1 ∷ row 0 3 0 30 0 0 0 ∷ row 0 5 253 0 0 0 0 ∷ row 0 6 0 0 0 0 0 ∷ row 1 0 0 0 0 0 0 ∷ row 1 1 1 1 1 0 0 ∷ [])
    ∷ (row 1 5 1 1 1 0 0 ∷ row 1 6 0 0 0 0 0 ∷ [])
    ∷ []

own_mode : model_rows modes_table (bytes "<r xmlns=\"u\" xmlns:q=\"w\" q:a=\"\"/>") ≡ own_mode_records
unfolding computing
own_mode = refl

own_mode_streamed : stream_rows modes_table (bytes "<r xmlns=\"u\" xmlns:q=\"w\" q:a=\"\"/>") ≡ own_mode_records
unfolding computing
own_mode_streamed = refl

-- URIs are compared, not classes: Q inside P is a section of its own, though both are unlisted; another prefix of one URI is not; D8: the URI span is that of the element's own look-up
abbrev uris_compared_records : List (List Row)
uris_compared_records =
    (row 0 0 0 0 0 0 0 ∷ row 0 1 255 1 1 10 1 ∷ [])
    ∷ (row 1 0 0 13 0 0 0 ∷ row 1 1 255 14 1 23 1 ∷ [])
    ∷ (row 1 1 255 41 1 35 1 ∷ [])
    ∷ (row 1 5 255 41 1 35 1 ∷ [])
    ∷ (row 1 5 255 46 1 23 1 ∷ row 1 6 0 0 0 0 0 ∷ [])
    ∷ (row 0 1 255 49 1 58 1 ∷ [])
    ∷ (row 0 5 255 49 1 58 1 ∷ [])
    ∷ (row 0 5 255 64 1 10 1 ∷ row 0 6 0 0 0 0 0 ∷ [])
    ∷ []

uris_compared : model_rows any_table (bytes "<r xmlns=\"P\"><x xmlns=\"Q\" xmlns:q=\"Q\"><q:y/></x><z xmlns=\"P\"/></r>") ≡ uris_compared_records
unfolding computing
uris_compared = refl

uris_compared_streamed : stream_rows any_table (bytes "<r xmlns=\"P\"><x xmlns=\"Q\" xmlns:q=\"Q\"><q:y/></x><z xmlns=\"P\"/></r>") ≡ uris_compared_records
unfolding computing
uris_compared_streamed = refl

-- A naming rule hides the any rules: x is attached, and not validated too; w is validated
abbrev naming_hides_any_records : List (List Row)
naming_hides_any_records =
    (row 0 0 0 0 0 0 0 ∷ row 0 1 1 1 1 0 0 ∷ [])
    ∷ (row 0 1 2 14 1 0 0 ∷ [])
    ∷ (row 0 5 2 14 1 0 0 ∷ [])
    ∷ (row 1 0 1 27 0 0 0 ∷ row 1 1 255 28 1 37 1 ∷ [])
    ∷ (row 1 5 255 28 1 37 1 ∷ row 1 6 0 0 0 0 0 ∷ [])
    ∷ (row 0 5 1 43 1 0 0 ∷ row 0 6 0 0 0 0 0 ∷ [])
    ∷ []

naming_hides_any : model_rows naming_table (bytes "<r xmlns=\"u\"><x xmlns=\"v\"/><w xmlns=\"w\"/></r>") ≡ naming_hides_any_records
unfolding computing
naming_hides_any = refl

naming_hides_any_streamed : stream_rows naming_table (bytes "<r xmlns=\"u\"><x xmlns=\"v\"/><w xmlns=\"w\"/></r>") ≡ naming_hides_any_records
unfolding computing
naming_hides_any_streamed = refl

-- D12: an element in the namespace of an ancestor, but not of its parent, starts a section; the unwrapped ones above it pass the target on
abbrev grandchild_records : List (List Row)
grandchild_records =
    (row 0 0 0 0 0 0 0 ∷ row 0 1 1 1 2 0 0 ∷ [])
    ∷ []
    ∷ []
    ∷ []
    ∷ (row 0 1 1 58 1 0 0 ∷ [])
    ∷ (row 0 4 0 60 1 0 0 ∷ [])
    ∷ (row 0 5 1 63 1 0 0 ∷ [])
    ∷ []
    ∷ []
    ∷ (row 0 5 1 82 2 0 0 ∷ row 0 6 0 0 0 0 0 ∷ [])
    ∷ []

grandchild : model_rows figure_table (bytes "<ex xmlns=\"ns\" xmlns:q=\"q\"><q:w>t<ns1:e2 xmlns:ns1=\"ns1\"><e>u</e></ns1:e2></q:w></ex>") ≡ grandchild_records
unfolding computing
grandchild = refl

grandchild_streamed : stream_rows figure_table (bytes "<ex xmlns=\"ns\" xmlns:q=\"q\"><q:w>t<ns1:e2 xmlns:ns1=\"ns1\"><e>u</e></ns1:e2></q:w></ex>") ≡ grandchild_records
unfolding computing
grandchild_streamed = refl

-- D9: an attribute in xml's namespace stays with an element of it
abbrev xml_stays_records : List (List Row)
xml_stays_records =
    (row 0 0 0 0 0 0 0 ∷ row 0 1 254 5 1 0 0 ∷ row 0 2 254 11 1 0 0 ∷ row 0 3 0 14 1 0 0 ∷ [])
    ∷ (row 1 0 1 17 1 0 0 ∷ row 1 1 253 0 0 0 0 ∷ row 1 2 254 24 1 0 0 ∷ row 1 3 0 27 0 0 0 ∷ row 1 5 253 0 0 0 0 ∷ row 1 6 0 0 0 0 0 ∷ [])
    ∷ []
    ∷ (row 0 5 254 36 1 0 0 ∷ row 0 6 0 0 0 0 0 ∷ [])
    ∷ []

xml_stays : model_rows xml_table (bytes "<xml:r xml:a='v'><x xml:b=''/></xml:r>") ≡ xml_stays_records
unfolding computing
xml_stays = refl

xml_stays_streamed : stream_rows xml_table (bytes "<xml:r xml:a='v'><x xml:b=''/></xml:r>") ≡ xml_stays_records
unfolding computing
xml_stays_streamed = refl

-- D10: attribute sections are formed by URIs, not by classes: P and Q, both unlisted, are two
abbrev unlisted_sections_records : List (List Row)
unlisted_sections_records =
    (row 0 0 1 0 1 0 0 ∷ row 0 1 253 0 0 0 0 ∷ row 0 2 255 29 1 12 1 ∷ row 0 3 0 32 0 0 0 ∷ row 0 5 253 0 0 0 0 ∷ row 0 6 0 0 0 0 0 ∷ row 1 0 1 0 1 0 0 ∷ row 1 1 253 0 0 0 0 ∷ row 1 2 255 36 1 24 1 ∷ row 1 3 0 39 0 0 0 ∷ row 1 5 253 0 0 0 0 ∷ row 1 6 0 0 0 0 0 ∷ row 2 0 0 0 0 0 0 ∷ row 2 1 0 1 1 0 0 ∷ [])
    ∷ (row 2 5 0 1 1 0 0 ∷ row 2 6 0 0 0 0 0 ∷ [])
    ∷ []

unlisted_sections : model_rows validating_table (bytes "<r xmlns:p=\"P\" xmlns:q=\"Q\" p:a=\"\" q:b=\"\"/>") ≡ unlisted_sections_records
unfolding computing
unlisted_sections = refl

unlisted_sections_streamed : stream_rows validating_table (bytes "<r xmlns:p=\"P\" xmlns:q=\"Q\" p:a=\"\" q:b=\"\"/>") ≡ unlisted_sections_records
unfolding computing
unlisted_sections_streamed = refl

-- An attribute stays by its URI, not by its class: that of Q does not with an element of P
abbrev unlisted_attribute_records : List (List Row)
unlisted_attribute_records =
    (row 0 0 1 0 1 0 0 ∷ row 0 1 253 0 0 0 0 ∷ row 0 2 255 27 1 22 1 ∷ row 0 3 0 30 0 0 0 ∷ row 0 5 253 0 0 0 0 ∷ row 0 6 0 0 0 0 0 ∷ row 1 0 0 0 0 0 0 ∷ row 1 1 255 1 1 10 1 ∷ [])
    ∷ (row 1 5 255 1 1 10 1 ∷ row 1 6 0 0 0 0 0 ∷ [])
    ∷ []

unlisted_attribute : model_rows validating_table (bytes "<r xmlns=\"P\" xmlns:q=\"Q\" q:a=\"\"/>") ≡ unlisted_attribute_records
unfolding computing
unlisted_attribute = refl

unlisted_attribute_streamed : stream_rows validating_table (bytes "<r xmlns=\"P\" xmlns:q=\"Q\" q:a=\"\"/>") ≡ unlisted_attribute_records
unfolding computing
unlisted_attribute_streamed = refl

-- An attached element's attributes are kept by its strand's own mode, not the parent's; a mode's element rules are none for attributes
abbrev attached_attributes_records : List (List Row)
attached_attributes_records =
    (row 0 0 0 0 0 0 0 ∷ row 0 1 1 1 1 0 0 ∷ [])
    ∷ (row 0 1 255 33 1 42 1 ∷ row 0 2 255 47 1 22 1 ∷ row 0 3 0 50 0 0 0 ∷ [])
    ∷ (row 0 5 255 33 1 42 1 ∷ [])
    ∷ (row 0 5 1 55 1 0 0 ∷ row 0 6 0 0 0 0 0 ∷ [])
    ∷ []

attached_attributes : model_rows attaching_table (bytes "<r xmlns=\"u\" xmlns:q=\"w\" q:a=\"\"><x xmlns=\"v\" q:b=\"\"/></r>") ≡ attached_attributes_records
unfolding computing
attached_attributes = refl

attached_attributes_streamed : stream_rows attaching_table (bytes "<r xmlns=\"u\" xmlns:q=\"w\" q:a=\"\"><x xmlns=\"v\" q:b=\"\"/></r>") ≡ attached_attributes_records
unfolding computing
attached_attributes_streamed = refl

-- D2: no namespace inside no namespace is the same section, also where it is declared; its class has no URI span
abbrev no_namespace_records : List (List Row)
no_namespace_records =
    (row 0 0 0 0 0 0 0 ∷ row 0 1 0 1 1 0 0 ∷ [])
    ∷ (row 0 1 0 4 1 0 0 ∷ [])
    ∷ (row 0 5 0 4 1 0 0 ∷ [])
    ∷ (row 0 5 0 18 1 0 0 ∷ row 0 6 0 0 0 0 0 ∷ [])
    ∷ []

no_namespace : model_rows any_table (bytes "<r><x xmlns=\"\"/></r>") ≡ no_namespace_records
unfolding computing
no_namespace = refl

no_namespace_streamed : stream_rows any_table (bytes "<r><x xmlns=\"\"/></r>") ≡ no_namespace_records
unfolding computing
no_namespace_streamed = refl

-- "An added end has the span of an end for />": the innermost first, each with its own start's part
added_ends_lem : completed_rows T (bytes "<r xmlns=\"u\" xmlns:p=\"u\"><p:x>")
    ≡ (row 0 0 0 0 0 0 0 ∷ row 0 1 1 1 1 0 0 ∷ [])
    ∷ (row 0 1 1 28 1 0 0 ∷ [])
    ∷ (row 0 5 1 28 1 0 0 ∷ [])
    ∷ (row 0 5 1 1 1 0 0 ∷ row 0 6 0 0 0 0 0 ∷ [])
    ∷ []
unfolding computing
added_ends_lem = refl

-- A record's bytes: unit 16, kind 8, class 8, offset 24, length 24, URI offset 24, URI length 24, each with its highest byte first
fields : record_bytes_of (record { unit = 0x0102; piece = holds (record { kind = 0x03; class = 0x04; at = 0x050607; len = 0x08090A; uri_at = 0x0B0C0D; uri_len = 0x0E0F10 }) }) ≡ 0x01 ∷ 0x02 ∷ 0x03 ∷ 0x04 ∷ 0x05 ∷ 0x06 ∷ 0x07 ∷ 0x08 ∷ 0x09 ∷ 0x0A ∷ 0x0B ∷ 0x0C ∷ 0x0D ∷ 0x0E ∷ 0x0F ∷ 0x10 ∷ []
unfolding computing
fields = refl
