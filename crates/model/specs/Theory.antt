-- What the model and the stream take from a table and a scene; a record and its unit. Definitions.
use Rattle.std.specs.Prelude.{Bool, List, ℕ}
pub use Rattle.table.specs.declared.Action.{Action}
pub use Rattle.table.specs.declared.Action.TheVariants.{Attach, Unwrap, Validate}
pub use Rattle.table.specs.declared.Rule.{Rule}

-- The unit of a section of attributes, "each open to close": its open, what stands in it, its close.
pub record AttributeUnit (Body : Type 0) : Type 0 where
  pub opening : Body
  pub held : List Body
  pub closing : Body

-- What a table and a scene give. Nothing is assumed of it.
pub record Theory : Type 1 where
  -- what a start, an attribute, a text and an end tell; a record's fields but for its unit; what an open element keeps of its start
  pub StartInfo : Type 0
  pub Attribute : Type 0
  pub TextInfo : Type 0
  pub EndInfo : Type 0
  pub Body : Type 0
  pub Kept : Type 0
  pub kept_of : StartInfo → Kept
  -- "An element whose namespace equals its parent's": the parent, the element
  pub same_section : Kept → StartInfo → Bool
  -- a start's attributes "in tag order"; whether one "stay[s] with" the element; whether two are of one namespace
  pub attributes : StartInfo → List Attribute
  pub stays : StartInfo → Attribute → Bool
  pub same_space : Attribute → Attribute → Bool
  -- "takes the rules of (its mode, kind 0, class)", in table order: those that a strand in this mode takes at the section whose root this is
  pub element_rules : ℕ → StartInfo → List Rule
  -- "with that strand's mode and kind 1, naming rules before any as above": those taken at the section of which this is an attribute
  pub attribute_rules : ℕ → Attribute → List Rule
  -- an open, with its schema, of an element's unit and of an attribute unit; a start; an attribute and its value; a virtual element's start and end; a text; an end; a close
  pub open_body : ℕ → StartInfo → Body
  pub open_attributes : ℕ → StartInfo → Body
  pub start_body : StartInfo → Body
  pub attribute_bodies : Attribute → List Body
  pub virtual_start : Body
  pub virtual_end : Body
  pub text_body : TextInfo → Body
  pub end_body : Kept → EndInfo → Body
  pub close_body : Body
  -- "An added end": that of an element which a cut leaves open
  pub added : Kept → EndInfo
  -- The stream's alone, in a mode: the units of an element's attributes, by section, rule; what a start writes
  pub attribute_units : ℕ → StartInfo → List (AttributeUnit Body)
  pub start_bodies : ℕ → StartInfo → List Body

-- A record but for its unit: the unit's open, or any other.
pub data Piece (Body : Type 0) : Type 0 where
  opens holds : Body → Piece Body

-- A record. Units are named by keys in the model, by numbers in its list and in the stream.
pub record Record (Body U : Type 0) : Type 0 where
  pub unit : U
  pub piece : Piece Body
