-- The model of a table and a scene: the parameters of Theory.antt, by document 01's records; the records of a scene's events, and their bytes.
-- Definitions.
use Rattle.std.specs.Prelude.{ℕ, List, map, take}
use Rattle.laws.specs.Gather.{gather}
use Rattle.table.specs.Table.{Table}
use Rattle.reader.specs.declared.Span.{Span}
use Rattle.reader.specs.Events as scene
use Rattle.model.specs.Theory.{Piece, opens, holds, Record, Theory}
use Rattle.model.specs.Tree.{TreeEvent, start, text, end}
use Rattle.model.specs.Model.{cut_model}
use Rattle.model.specs.Elements.{Attribute, Element, element_of, same_space, stays}
use Rattle.model.specs.Records.{Body, OpenElement, kept_of, record_bytes, open_body, open_attributes, start_body, attribute_bodies, virtual_start, virtual_end, text_body, end_body, close_body}
use Rattle.model.specs.Groups.{attribute_units, start_bodies}

-- what a table gives. "An element whose namespace equals its parent's belongs to its parent's section"; "An added end has the span of an end for
-- />": the part of the start's name
abbrev pub dispatch : Table → Theory
dispatch t =
    record {
      StartInfo = Element;
      Attribute = Attribute;
      TextInfo = Span;
      EndInfo = Span;
      Body = Body;
      Kept = OpenElement;
      kept_of = kept_of;
      same_section = λ (k : OpenElement) (e : Element). same_space k.space e.space;
      attributes = λ (e : Element). e.attributes;
      stays = stays;
      same_space = λ (a b : Attribute). same_space a.space b.space;
      element_rules = λ (mode : ℕ) (e : Element). t.element_rules mode e.space.class;
      attribute_rules = λ (mode : ℕ) (a : Attribute). t.attribute_rules mode a.space.class;
      open_body = open_body;
      open_attributes = open_attributes;
      start_body = start_body;
      attribute_bodies = attribute_bodies;
      virtual_start = virtual_start;
      virtual_end = virtual_end;
      text_body = text_body;
      end_body = end_body;
      close_body = close_body;
      added = λ (k : OpenElement). k.part;
      attribute_units = attribute_units t;
      start_bodies = start_bodies t;
    }

-- an event of a scene as the dispatcher takes it
abbrev pub told : (t : Table) → List ℕ → scene.Event → TreeEvent (dispatch t)
told t s (scene.start e) = start (element_of t s e)
told t s (scene.text w) = text w
told t s (scene.end part at) = end part

-- a record's bytes
abbrev pub piece_body : Piece Body → Body
piece_body (opens b) = b
piece_body (holds b) = b

abbrev pub record_bytes_of : Record Body ℕ → List ℕ
record_bytes_of r = record_bytes r.unit (piece_body r.piece)

-- the records of each event, joined
unfoldable pub joined_bytes : List (List (Record Body ℕ)) → List ℕ
joined_bytes cells = gather (gather record_bytes_of) cells

-- the bytes of the model's records of the first k events of a scene: of the tree of these events, closed by an end for each element still open,
-- the added ends struck
unfoldable pub expected : Table → List ℕ → ℕ → List ℕ
expected t s k = joined_bytes (cut_model (dispatch t) (map (told t s) (take k (scene.events s))))
