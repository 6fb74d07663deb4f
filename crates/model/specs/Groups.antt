-- What a start writes of its attributes along a strand in a mode, in the stream's form: the attributes that do not stay, grouped by namespace. Definitions.
use Rattle.std.specs.Prelude.{ℕ, List, [], ◌∷◌, ◌++◌, Bool, true, false, cond, ◌&&◌, ◌||◌, not}
use Rattle.laws.specs.Lists.{keep, any}
use Rattle.laws.specs.Gather.{gather}
use Rattle.table.specs.Table.{Table}
use Rattle.table.specs.declared.Action.{Action}
use Rattle.table.specs.declared.Action.TheVariants.{Attach, Unwrap, Validate}
use Rattle.table.specs.declared.Rule.{Rule}
use Rattle.model.specs.Theory.{AttributeUnit}
use Rattle.model.specs.Elements.{Space, Attribute, Element, same_space, stays}
use Rattle.model.specs.Records.{Body, open_attributes, start_body, attribute_bodies, virtual_start, virtual_end, close_body}

-- An attribute section: its namespace and its attributes, in tag order
pub record AttributeGroup : Type 0 where
  pub space : Space
  pub members : List Attribute

-- an attribute put to the section of its namespace, or behind the last as a section of its own
unfoldable pub grouped : List AttributeGroup → Attribute → List AttributeGroup
grouped [] a = record { space = a.space; members = a ∷ [] } ∷ []
grouped (c ∷ cs) a =
    cond (same_space c.space a.space) (record { space = c.space; members = c.members ++ (a ∷ []) } ∷ cs) (c ∷ grouped cs a)

unfoldable pub groups_from : List AttributeGroup → List Attribute → List AttributeGroup
groups_from cs [] = cs
groups_from cs (a ∷ as') = groups_from (grouped cs a) as'

-- "The others form one section per namespace, ordered by first attribute"
unfoldable pub groups_of : Element → List AttributeGroup
groups_of e = groups_from [] (keep (λ (a : Attribute). not (stays e a)) e.attributes)

-- "with that strand's mode and kind 1, naming rules before any": the rules that a strand in a mode takes at an attribute section
abbrev pub group_rules : Table → ℕ → AttributeGroup → List Rule
group_rules t mode c = t.attribute_rules mode c.space.class

-- "each validate rule opens a unit holding a virtual element with these attributes"
abbrev pub unit_by : Element → AttributeGroup → Action → ℕ → List (AttributeUnit Body)
unit_by e c Attach schema = []
unit_by e c Unwrap schema = []
unit_by e c Validate schema =
    record {
      opening = open_attributes schema e;
      held = virtual_start ∷ gather attribute_bodies c.members ++ (virtual_end ∷ []);
      closing = close_body;
    }
    ∷ []

-- the attribute units of an element along a strand of this mode, "by section, rule"
unfoldable pub attribute_units : Table → ℕ → Element → List (AttributeUnit Body)
attribute_units t mode e =
    gather (λ (c : AttributeGroup). gather (λ (r : Rule). unit_by e c r.action r.schema) (group_rules t mode c)) (groups_of e)

-- "attach keeps them with the element; otherwise they are not kept"
abbrev pub is_attach : Action → Bool
is_attach Attach = true
is_attach Unwrap = false
is_attach Validate = false

abbrev pub keeps_group : Table → ℕ → AttributeGroup → Bool
keeps_group t mode c = any (λ (r : Rule). is_attach r.action) (group_rules t mode c)

-- an attribute is kept along a strand of this mode: it stays with the element, or its section is attached
unfoldable pub kept : Table → ℕ → Element → Attribute → Bool
kept t mode e a = stays e a || any (λ (c : AttributeGroup). same_space c.space a.space && keeps_group t mode c) (groups_of e)

-- "start, then 2 and 3 per kept attribute in tag order"
unfoldable pub start_bodies : Table → ℕ → Element → List Body
start_bodies t mode e = start_body e ∷ gather attribute_bodies (keep (kept t mode e) e.attributes)
