-- 'Records': the records of an event, from strands and attributes as the arrays hold them. A device: they are the stream's, by the laws of
-- proofs/. Definitions.
use Rattle.std.specs.Prelude.{ℕ, ◌+◌, ◌*◌, List, [], ◌∷◌, ◌++◌, map, Bool, cond, ◌&&◌, ◌||◌, length, eqb}
use Rattle.laws.specs.Lists.{tabulate, keep}
use Rattle.laws.specs.Gather.{gather}
use Rattle.table.specs.declared.Action.{Action}
use Rattle.table.specs.declared.Action.TheVariants.{Attach, Unwrap, Validate}
use Rattle.table.specs.declared.Rule.{Rule}
use Rattle.reader.specs.Spans.{span}
use Rattle.model.specs.Theory.{AttributeUnit, Piece, opens, holds, Record}
use Rattle.model.specs.Stream.{Entry, give}
use Rattle.model.specs.Records.{Body, spaced, plain, close_body, virtual_start, virtual_end}
use Rattle.model.specs.Dispatch.{piece_body}
use Rattle.records.specs.declared.Row.{Row}
use Rattle.strands.specs.declared.Begun.{Begun}
use Rattle.strands.specs.Packed.{strand_in, receives, is_unit}
use Rattle.strands.specs.Rules.{rules_in, keeps_class, units_for}
use Rattle.attributes.specs.Attributes.{Sorted}

-- a record as a row
abbrev pub row_for : ℕ → Body → Row
row_for unit b = record { unit = unit; kind = b.kind; class = b.class; at = b.at; len = b.len; uri_at = b.uri_at; uri_len = b.uri_len }

abbrev pub row_of : Record Body ℕ → Row
row_of r = row_for r.unit (piece_body r.piece)

-- ---- a text and an end
-- what a strand writes: this record, and "a close if the unit opened at this element" where the event closes
abbrev pub event_pieces : Body → Bool → List (Piece Body)
event_pieces b closes = holds b ∷ cond closes (holds close_body ∷ []) []

abbrev pub event_records : Body → Bool → ℕ → List (Record Body ℕ)
event_records b closes w = give (receives (strand_in w)) (event_pieces b (closes && (strand_in w).here))

abbrev pub event_count : Bool → ℕ → ℕ
event_count closes w = cond (is_unit (receives (strand_in w))) (cond (closes && (strand_in w).here) 2 1) 0

-- ---- a start: attribute units
abbrev pub members : List Sorted → ℕ → List Sorted
members l j = keep (λ (a : Sorted). eqb a.section j) l

-- the class of a section: that of its first attribute
abbrev pub head_class : List Sorted → ℕ
head_class [] = 0
head_class (a ∷ l) = a.class

abbrev pub sorted_bodies : Sorted → List Body
sorted_bodies a = spaced 2 a.part a.class a.uri ∷ plain 3 0 a.value ∷ []

-- "each validate rule opens a unit holding a virtual element with these attributes"
abbrev pub unit_for : ℕ → List Sorted → Action → ℕ → List (AttributeUnit Body)
unit_for at l Attach schema = []
unit_for at l Unwrap schema = []
unit_for at l Validate schema =
    record {
      opening = plain 0 schema (span at 1);
      held = virtual_start ∷ gather sorted_bodies l ++ (virtual_end ∷ []);
      closing = close_body;
    }
    ∷ []

-- of a section, by rule; of a strand in this mode, by section; of all strands
unfoldable pub section_units : List ℕ → ℕ → ℕ → List Sorted → ℕ → List (AttributeUnit Body)
section_units index mode at l j =
    gather (λ (r : Rule). unit_for at (members l j) r.action r.schema) (rules_in index mode 1 (head_class (members l j)))

unfoldable pub strand_units : List ℕ → ℕ → List Sorted → ℕ → ℕ → List (AttributeUnit Body)
strand_units index at l sections mode = gather (section_units index mode at l) (tabulate (λ (j : ℕ). j) 1 sections)

abbrev pub tag_units : List ℕ → ℕ → List Sorted → ℕ → List Entry → List (AttributeUnit Body)
tag_units index at l sections es = gather (λ (e : Entry). strand_units index at l sections e.strand.mode) es

-- ---- a start: the element along its strands
abbrev pub keeps : List ℕ → ℕ → Sorted → Bool
keeps index mode a = eqb a.section 0 || keeps_class index mode a.class

abbrev pub opens_with : ℕ → ℕ → Bool → List (Piece Body)
opens_with at schema here = cond here (opens (plain 0 schema (span at 0)) ∷ []) []

-- the record of an element's start
abbrev pub begun_body : Begun → Body
begun_body b = record { kind = 1; class = b.class; at = b.at; len = b.len; uri_at = b.uri_at; uri_len = b.uri_len }

-- "then per strand an open if new and start, then 2 and 3 per kept attribute in tag order"
unfoldable pub element_records : List ℕ → ℕ → Body → List Sorted → Entry → List (Record Body ℕ)
element_records index at begun l e =
    give (receives e.strand)
    (opens_with at e.schema e.strand.here ++ map holds (begun ∷ gather sorted_bodies (keep (keeps index e.strand.mode) l)))

-- the same where every attribute is kept: of the start and of all attributes
abbrev pub whole_bodies : Body → List Sorted → List Body
whole_bodies begun l = begun ∷ gather sorted_bodies l

unfoldable pub whole_records : ℕ → List Body → Entry → List (Record Body ℕ)
whole_records at bodies e = give (receives e.strand) (opens_with at e.schema e.strand.here ++ map holds bodies)

-- ---- how many
-- the records of the attribute units of a section, each 4 and 2 for an attribute
abbrev pub section_count : List ℕ → ℕ → List Sorted → ℕ → ℕ
section_count index mode l j = units_for index mode (head_class (members l j)) * (4 + 2 * length (members l j))

abbrev pub element_count : List ℕ → List Sorted → Entry → ℕ
element_count index l e =
    cond (is_unit (receives e.strand)) (cond e.strand.here 1 0 + (1 + 2 * length (keep (keeps index e.strand.mode) l))) 0
