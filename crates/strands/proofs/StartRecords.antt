-- The records of a start, from its strands and its attributes with the numbers of their sections, are the model's.
--     taken_in                    the rules taken in a mode, of a kind, for a class
--     units_are, tag_units_are    the attribute units along a strand, and along all
--     kept_are                    the attributes kept along a strand
--     start_are, starts_are       the records of the element along a strand, and along all
use Prim.Native.Nat.{ℕ, ◌+◌, ◌≤◌, ◌<◌}
use mathlib.Core.Path.{◌≡◌, refl, sym, ap, ap₂, ◌∙◌}
use mathlib.Core.List.{List, [], ◌∷◌, ◌++◌, map}
use mathlib.Core.Bool.{Bool, true, false, cond, not, ◌&&◌, ◌||◌}
use native.Mathlib.Omega.{arith}
use borrow.Author.Tests.{lt-ltb}
use lib.ListN.{length, get_or}
use lib.Dec.{eqb}
use Rattle.laws.specs.Lists.{any, keep}
use Rattle.laws.specs.Gather.{gather}
use Rattle.laws.specs.Members.{In, All}
use Rattle.laws.proofs.Lists.{keep_map}
use Rattle.laws.proofs.Elementwise as elementwise
use Rattle.laws.proofs.Elementwise.{any_same}
use Rattle.laws.proofs.Members.{all_by, in_kept}
use Rattle.table.specs.Table.{Table, or_else, rules_of, Default, standard, fallback, taken_of, all_rules, table_of}
use Rattle.table.specs.Index.{index_of}
use Rattle.table.specs.declared.Header.{Header}
use Rattle.table.specs.declared.Action.{Action}
use Rattle.table.specs.declared.Action.TheVariants.{Attach, Unwrap, Validate}
use Rattle.table.specs.declared.Rule.{Rule}
use Rattle.table.proofs.Indexed.{chosen_rules}
use Rattle.model.specs.Theory.{AttributeUnit, holds}
use Rattle.model.specs.Stream.{Entry, units_of, start_records, give}
use Rattle.model.specs.Elements.{Space, Attribute, Element, same_space, stays}
use Rattle.model.specs.Groups.{AttributeGroup, groups_of, group_rules, unit_by, attribute_units, is_attach, keeps_group, kept, start_bodies}
use Rattle.model.specs.Records.{Body, start_body, attribute_bodies}
use Rattle.model.specs.Dispatch.{dispatch}
use Rattle.model.proofs.Lists.{gather_same, gather_map}
use Rattle.strands.specs.Rules.{rules_in, keeps_class}
use Rattle.strands.specs.Packed.{receives}
use Rattle.attributes.specs.Attributes.{Sorted, section_place, sorted_of}
use Rattle.strands.specs.Writing.{sorted_bodies, unit_for, section_units, strand_units, tag_units, keeps, opens_with, element_records}
use Rattle.strands.proofs.ListLaws.{gather_places, keep_each, any_and}
use Rattle.strands.proofs.Grouped.{has, Formed, leaving, sections_of}
use Rattle.strands.proofs.Numbered.{place_some, all_of, first_in, formed_at, section_members, section_class, Classed}

-- ---- the rules: the default of attributes opens no unit
abbrev attached : ℕ → Rule
attached mode = fallback standard.attribute 1 mode

units_or_else : (f : Action → ℕ → List (AttributeUnit Body)) → ((n : ℕ) → f Attach n ≡ []) → (mode : ℕ) (rs : List Rule)
    → gather (λ (r : Rule). f r.action r.schema) (or_else rs (attached mode ∷ [])) ≡ gather (λ (r : Rule). f r.action r.schema) rs
unfolding gather
units_or_else f e mode [] = simp (e 0)
units_or_else f e mode (r ∷ rs) = refl

-- the unit of a section
unit_is : (σ : Element) (c : AttributeGroup) (action : Action) (schema : ℕ) → unit_for σ.at (map (sorted_of σ) c.members) action schema ≡ unit_by σ c action schema
unit_is σ c Attach schema = refl
unit_is σ c Unwrap schema = refl
unit_is σ c Validate schema = rw (gather_map sorted_bodies (sorted_of σ) c.members)

module _ (table : List ℕ) (h : Header) (few : h.rules ≤ 128) (few_modes : h.modes ≤ 32) where
  rules_in_lem : (mode kind class : ℕ) → mode < h.modes → kind < 2 → class < 256 → rules_in (index_of table h) mode kind class ≡ rules_of (all_rules table h) mode kind class
  unfolding rules_in
  rules_in_lem mode kind class m k c = chosen_rules table h few mode kind class (omega arith) k c

  pub taken_in : (d : Default) (mode kind class : ℕ) → mode < h.modes → kind < 2 → class < 256
      → or_else (rules_in (index_of table h) mode kind class) (fallback d kind mode ∷ []) ≡ taken_of h (all_rules table h) d kind mode class
  unfolding taken_of
  taken_in d mode kind class m k c = rw (rules_in_lem mode kind class m k c, lt-ltb mode h.modes m)

  module _ (σ : Element) (v : Classed σ) where
    abbrev t : Table
    t = table_of table h

    abbrev index : List ℕ
    index = index_of table h

    class_few : (c : AttributeGroup) → Formed (leaving σ) c → c.space.class < 256
    class_few c f = rw f.space_is (v.few_classes f.first (first_in σ c f))

    module _ (mode : ℕ) (m : mode < h.modes) where
      -- ---- attribute units
      section_units_lem : (d : AttributeGroup) (i : ℕ) → i < length (groups_of σ)
          → section_units index mode σ.at (all_of σ) (1 + i) ≡ (gather (λ (r : Rule). unit_by σ (get_or (groups_of σ) i d) r.action r.schema) (group_rules t mode (get_or (groups_of σ) i d)))
      unfolding section_units
      section_units_lem d i l =
          ap₂ (λ (ms : List Sorted) (class : ℕ). gather (λ (r : Rule). unit_for σ.at ms r.action r.schema) (rules_in index mode 1 class)) (section_members σ d i l) (section_class σ d i l)
          ∙ gather_same (λ (r : Rule). unit_for σ.at (map (sorted_of σ) c.members) r.action r.schema) (λ (r : Rule). unit_by σ c r.action r.schema) (λ r. unit_is σ c r.action r.schema) (rules_in index mode 1 c.space.class)
          ∙ sym (units_or_else (unit_by σ c) (λ n. refl) mode (rules_in index mode 1 c.space.class))
          ∙ ap (gather (λ (r : Rule). unit_by σ c r.action r.schema)) (taken_in standard.attribute mode 1 c.space.class m (omega arith) (class_few c (formed_at σ d i l)))
        where
          c : AttributeGroup
          c = get_or (groups_of σ) i d

      pub units_are : strand_units (index_of table h) σ.at (all_of σ) (length (groups_of σ)) mode ≡ attribute_units (table_of table h) mode σ
      unfolding strand_units attribute_units
      units_are =
          gather_places (section_units index mode σ.at (all_of σ)) (λ (c : AttributeGroup). gather (λ (r : Rule). unit_by σ c r.action r.schema) (group_rules t mode c))
          (record { space = σ.space; members = [] }) (groups_of σ) 1 (section_units_lem (record { space = σ.space; members = [] }))

      -- ---- kept attributes
      abbrev attaches : ℕ → Bool
      attaches class = any (λ (r : Rule). is_attach r.action) (t.attribute_rules mode class)

      class_attaches : (class : ℕ) → class < 256 → keeps_class index mode class ≡ attaches class
      class_attaches class l = ap (any (λ (r : Rule). is_attach r.action)) (taken_in standard.attribute mode 1 class m (omega arith) l)

      section_keeps : (a : Attribute) → In a σ.attributes → (c : AttributeGroup) → Formed (leaving σ) c → (has c a && keeps_group t mode c) ≡ (has c a && attaches a.space.class)
      section_keeps a i c f = by (has c a) refl
        where
          by : (z : Bool) → z ≡ has c a → (z && keeps_group t mode c) ≡ (z && attaches a.space.class)
          by true e =
              let s : same_space f.first.space a.space ≡ true = ap (λ (w : Space). same_space w a.space) (sym f.space_is) ∙ sym e in
              ap attaches (ap (λ (w : Space). w.class) f.space_is ∙ v.one_class f.first a (first_in σ c f) i s)
          by false e = refl

      pub kept_are : (a : Attribute) → In a σ.attributes → keeps (index_of table h) mode (sorted_of σ a) ≡ kept (table_of table h) mode σ a
      unfolding kept
      kept_are a i = by (stays σ a) refl
        where
          sectioned : Bool
          sectioned = any (λ (c : AttributeGroup). has c a && keeps_group t mode c) (groups_of σ)

          away : stays σ a ≡ false → keeps_class index mode a.space.class ≡ sectioned
          away e =
              let some : any (λ (c : AttributeGroup). has c a) (groups_of σ) ≡ true = (sections_of σ).each a (in_kept (λ (b : Attribute). not (stays σ b)) a σ.attributes i (ap not e)) in
              class_attaches a.space.class (v.few_classes a i)
              ∙ sym (any_same (Formed (leaving σ)) (λ (c : AttributeGroup). has c a && keeps_group t mode c) (λ (c : AttributeGroup). has c a && attaches a.space.class) (section_keeps a i) (groups_of σ) (sections_of σ).formed
              ∙ any_and (λ (c : AttributeGroup). has c a) (attaches a.space.class) (groups_of σ)
              ∙ ap (λ (b : Bool). b && attaches a.space.class) some)

          by : (z : Bool) → z ≡ stays σ a → (eqb (cond z 0 (section_place 1 (groups_of σ) a)) 0 || keeps_class index mode a.space.class) ≡ (z || sectioned)
          by true e = refl
          by false e = ap (λ (b : Bool). b || keeps_class index mode a.space.class) (place_some (groups_of σ) a) ∙ away (sym e)

      kept_bodies_lem : gather sorted_bodies (keep (keeps index mode) (all_of σ)) ≡ gather attribute_bodies (keep (kept t mode σ) σ.attributes)
      kept_bodies_lem =
          ap (gather sorted_bodies)
          (keep_map (sorted_of σ) (keeps index mode) σ.attributes
          ∙ ap (map (sorted_of σ))
          (keep_each (λ (a : Attribute). In a σ.attributes) (λ (a : Attribute). keeps index mode (sorted_of σ a)) (kept t mode σ) kept_are σ.attributes
          (all_by (λ (a : Attribute). In a σ.attributes) σ.attributes (λ a i. i))))
          ∙ gather_map sorted_bodies (sorted_of σ) (keep (kept t mode σ) σ.attributes)

    -- ---- along a strand, and along all
    pub start_are : (e : Entry) (begun : Body) → e.strand.mode < h.modes → begun ≡ start_body σ
        → element_records (index_of table h) σ.at begun (all_of σ) e ≡ start_records (dispatch (table_of table h)) σ e
    unfolding element_records start_bodies
    start_are e begun m d =
        ap₂ (λ (b : Body) (bs : List Body). give (receives e.strand) (opens_with σ.at e.schema e.strand.here ++ map holds (b ∷ bs))) d
        (kept_bodies_lem e.strand.mode m)

    pub starts_are : (es : List Entry) (begun : Body) → All (λ (e : Entry). e.strand.mode < h.modes) es → begun ≡ start_body σ
        → gather (element_records (index_of table h) σ.at begun (all_of σ)) es ≡ gather (start_records (dispatch (table_of table h)) σ) es
    starts_are es begun a d =
        elementwise.gather_same (λ (e : Entry). e.strand.mode < h.modes) (element_records index σ.at begun (all_of σ)) (start_records (dispatch t) σ) (λ e m. start_are e begun m d) es a

    pub tag_units_are : (es : List Entry) → All (λ (e : Entry). e.strand.mode < h.modes) es
        → tag_units (index_of table h) σ.at (all_of σ) (length (groups_of σ)) es ≡ units_of (dispatch (table_of table h)) σ es
    tag_units_are es a =
        elementwise.gather_same (λ (e : Entry). e.strand.mode < h.modes) (λ (e : Entry). strand_units index σ.at (all_of σ) (length (groups_of σ)) e.strand.mode)
        (λ (e : Entry). attribute_units t e.strand.mode σ)
        (λ e m. units_are e.strand.mode m) es a
