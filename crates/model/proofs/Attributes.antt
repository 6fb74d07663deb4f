-- What the stream says of an element's attributes is what the model says of them divided into sections.
use mathlib.Core.Path.{◌≡◌, refl, sym, ap, ap₂, subst, ◌∙◌}
use mathlib.Core.Bool.{Bool, true, false, cond, not, ◌&&◌, ◌||◌, or-false}
use mathlib.Core.Logic.{◌⊎◌, inl, inr}
use mathlib.Core.List.{List, [], ◌∷◌, ◌++◌, map, append_assoc}
use mathlib.Core.Option.{none, some}
use Prim.Native.Nat.{ℕ}
use Rattle.laws.specs.Lists.{same_list, keep, any}
use Rattle.laws.specs.Gather.{gather}
use Rattle.laws.specs.Members.{In, All}
use Rattle.laws.proofs.Flags.{differ}
use Rattle.laws.proofs.Members.{in_kept}
use Rattle.laws.proofs.Lists.{any_same}
use Rattle.compare.proofs.Equal.{same_refl, same_eq}
use Rattle.table.specs.Table.{Table}
use Rattle.model.specs.Theory.{Action, Attach, Unwrap, Validate, Rule, AttributeUnit, opens, holds}
use Rattle.model.specs.Sections.{AttributeSection, TagAttribute, put_to, formed_from, attribute_sections, section_among, tag_attributes}
use Rattle.model.specs.Model.{attached, kept_bodies, start_pieces, virtual_pieces, attribute_pieces}
use Rattle.model.specs.Groups as stream
use Rattle.model.specs.Elements.{Attribute, Element, same_space, stays}
use Rattle.model.specs.Groups.{grouped, groups_from, groups_of, unit_by, group_rules, attribute_units, is_attach, keeps_group, kept, start_bodies}
use Rattle.model.specs.Records.{Body, open_attributes, virtual_start, virtual_end, close_body, start_body, attribute_bodies}
use Rattle.model.specs.Dispatch.{dispatch}
use Rattle.model.proofs.Lists.{gather_same, map_gather, gather_map}
use Rattle.model.proofs.Events.{unit_pieces}
use Rattle.model.proofs.Filling.{Agree}

module _ (t : Table) where
  -- A section of the model, as the stream has it.
  abbrev as_stream : AttributeSection (dispatch t) → stream.AttributeGroup
  as_stream c = record { space = c.first.space; members = c.first ∷ c.others }

  placed_same : (cs : List (AttributeSection (dispatch t))) (a : Attribute) → grouped (map as_stream cs) a ≡ map as_stream (put_to (dispatch t) cs a)
  unfolding grouped
  placed_same [] a = refl
  placed_same (c ∷ cs) a = by (same_space c.first.space a.space) (placed_same cs a)
    where
      by : (b : Bool) → grouped (map as_stream cs) a ≡ map as_stream (put_to (dispatch t) cs a)
          → cond b (record { space = c.first.space; members = (c.first ∷ c.others) ++ (a ∷ []) } ∷ map as_stream cs) (as_stream c ∷ grouped (map as_stream cs) a)
          ≡ map as_stream (cond b (record { first = c.first; others = c.others ++ (a ∷ []) } ∷ cs) (c ∷ put_to (dispatch t) cs a))
      by true ih = refl
      by false ih = ap (λ (x : List stream.AttributeGroup). as_stream c ∷ x) ih

  formed_same : (cs : List (AttributeSection (dispatch t))) (l : List Attribute) → groups_from (map as_stream cs) l ≡ map as_stream (formed_from (dispatch t) cs l)
  unfolding groups_from
  formed_same cs [] = refl
  formed_same cs (a ∷ l) = ap (λ (x : List stream.AttributeGroup). groups_from x l) (placed_same cs a) ∙ formed_same (put_to (dispatch t) cs a) l

  sections_same : (e : Element) → groups_of e ≡ map as_stream (attribute_sections (dispatch t) e)
  unfolding groups_of
  sections_same e = formed_same [] (keep (λ (a : Attribute). not (stays e a)) e.attributes)

  -- ---- attribute units
  unit_same : (e : Element) (c : AttributeSection (dispatch t)) (a : Action) (schema : ℕ)
      → map unit_pieces (unit_by e (as_stream c) a schema) ≡ elim a [ Attach ↦ [] | Unwrap ↦ [] | Validate ↦ virtual_pieces (dispatch t) e c schema ∷ [] ]
  unit_same e c Attach schema = refl
  unit_same e c Unwrap schema = refl
  unit_same e c Validate schema =
      let held = gather attribute_bodies (c.first ∷ c.others) in
      ap (λ (bs : List Body). (opens (open_attributes schema e) ∷ map holds (virtual_start ∷ bs)) ∷ []) (append_assoc held (virtual_end ∷ []) (close_body ∷ []))

  units_same : (m : ℕ) (e : Element) → map unit_pieces (attribute_units t m e) ≡ attribute_pieces (dispatch t) m e (attribute_sections (dispatch t) e)
  unfolding attribute_units
  units_same m e =
      let by : stream.AttributeGroup → List (AttributeUnit Body) = λ (c : stream.AttributeGroup). gather (λ (r : Rule). unit_by e c r.action r.schema) (group_rules t m c) in
      ap (λ (cs : List stream.AttributeGroup). map unit_pieces (gather by cs)) (sections_same e)
      ∙ map_gather unit_pieces by (map as_stream (attribute_sections (dispatch t) e))
      ∙ gather_map (λ (c : stream.AttributeGroup). map unit_pieces (by c)) as_stream (attribute_sections (dispatch t) e)
      ∙ gather_same _ _ (λ (c : AttributeSection (dispatch t)). map_gather unit_pieces (λ (r : Rule). unit_by e (as_stream c) r.action r.schema) (group_rules t m (as_stream c)) ∙ gather_same _ _ (λ (r : Rule). unit_same e c r.action r.schema) (group_rules t m (as_stream c))) (attribute_sections (dispatch t) e)

  -- ---- kept attributes
  -- Whether a section is of an attribute's namespace.
  abbrev is_of : Attribute → AttributeSection (dispatch t) → Bool
  is_of a c = same_space c.first.space a.space

  -- No two sections are of one namespace.
  abbrev Apart : List (AttributeSection (dispatch t)) → Type 0
  Apart [] = Unit {0}
  Apart (c ∷ cs) = All (λ d. is_of d.first c ≡ false) cs × Apart cs

  -- One of them is of the attribute's namespace.
  abbrev Holds : Attribute → List (AttributeSection (dispatch t)) → Type 0
  Holds a [] = ⊥
  Holds a (c ∷ cs) = (is_of a c ≡ true) ⊎ Holds a cs

  apart_from : (c : AttributeSection (dispatch t)) (a : Attribute) → is_of a c ≡ false → (cs : List (AttributeSection (dispatch t))) → All (λ d. is_of d.first c ≡ false) cs → All (λ d. is_of d.first c ≡ false) (put_to (dispatch t) cs a)
  apart_from c a n [] h = (n, tt)
  apart_from c a n (d ∷ cs) h = by (is_of a d) (apart_from c a n cs h.1)
    where
      by : (b : Bool) → All (λ d. is_of d.first c ≡ false) (put_to (dispatch t) cs a) → All (λ d. is_of d.first c ≡ false) (cond b (record { first = d.first; others = d.others ++ (a ∷ []) } ∷ cs) (d ∷ put_to (dispatch t) cs a))
      by true ih = h
      by false ih = (h.0, ih)

  apart_put : (a : Attribute) (cs : List (AttributeSection (dispatch t))) → Apart cs → Apart (put_to (dispatch t) cs a)
  apart_put a [] h = (tt, tt)
  apart_put a (c ∷ cs) h = by (is_of a c) refl (apart_put a cs h.1)
    where
      by : (b : Bool) → is_of a c ≡ b → Apart (put_to (dispatch t) cs a) → Apart (cond b (record { first = c.first; others = c.others ++ (a ∷ []) } ∷ cs) (c ∷ put_to (dispatch t) cs a))
      by true e ih = h
      by false e ih = (apart_from c a e cs h.0, ih)

  apart_formed : (l : List Attribute) (cs : List (AttributeSection (dispatch t))) → Apart cs → Apart (formed_from (dispatch t) cs l)
  apart_formed [] cs h = h
  apart_formed (a ∷ l) cs h = apart_formed l (put_to (dispatch t) cs a) (apart_put a cs h)

  put_holds : (a : Attribute) (cs : List (AttributeSection (dispatch t))) → Holds a (put_to (dispatch t) cs a)
  put_holds a [] = inl (same_refl a.space.bytes)
  put_holds a (c ∷ cs) = by (is_of a c) refl (put_holds a cs)
    where
      by : (b : Bool) → is_of a c ≡ b → Holds a (put_to (dispatch t) cs a) → Holds a (cond b (record { first = c.first; others = c.others ++ (a ∷ []) } ∷ cs) (c ∷ put_to (dispatch t) cs a))
      by true e ih = inl e
      by false e ih = inr ih

  put_keeps : (x a : Attribute) (cs : List (AttributeSection (dispatch t))) → Holds x cs → Holds x (put_to (dispatch t) cs a)
  put_keeps x a [] h = absurd h
  put_keeps x a (c ∷ cs) h = by (is_of a c) h (put_keeps x a cs)
    where
      by : (b : Bool) → (is_of x c ≡ true) ⊎ Holds x cs → (Holds x cs → Holds x (put_to (dispatch t) cs a)) → Holds x (cond b (record { first = c.first; others = c.others ++ (a ∷ []) } ∷ cs) (c ∷ put_to (dispatch t) cs a))
      by true h ih = h
      by false (inl e) ih = inl e
      by false (inr k) ih = inr (ih k)

  formed_keeps : (x : Attribute) (l : List Attribute) (cs : List (AttributeSection (dispatch t))) → Holds x cs → Holds x (formed_from (dispatch t) cs l)
  formed_keeps x [] cs h = h
  formed_keeps x (a ∷ l) cs h = formed_keeps x l (put_to (dispatch t) cs a) (put_keeps x a cs h)

  formed_holds : (x : Attribute) (l : List Attribute) (cs : List (AttributeSection (dispatch t))) → In x l → Holds x (formed_from (dispatch t) cs l)
  formed_holds x [] cs m = absurd m
  formed_holds x (a ∷ l) cs (inl e) = formed_keeps x l (put_to (dispatch t) cs a) (subst (λ (y : Attribute). Holds y (put_to (dispatch t) cs a)) (sym e) (put_holds a cs))
  formed_holds x (a ∷ l) cs (inr m) = formed_holds x l (put_to (dispatch t) cs a) m

  attach_same : (m : ℕ) (c : AttributeSection (dispatch t)) → keeps_group t m (as_stream c) ≡ attached (dispatch t) m c
  attach_same m c = any_same (λ (r : Rule). is_attach r.action) (λ (r : Rule). elim r.action [ Attach ↦ true | Unwrap ↦ false | Validate ↦ false ]) (λ (r : Rule). by r.action) (group_rules t m (as_stream c))
    where
      by : (a : Action) → is_attach a ≡ elim a [ Attach ↦ true | Unwrap ↦ false | Validate ↦ false ]
      by Attach = refl
      by Unwrap = refl
      by Validate = refl

  -- Whether a section is attached, found among the sections by the attribute's namespace.
  module _ (m : ℕ) (a : Attribute) where
    abbrev among : List (AttributeSection (dispatch t)) → Bool
    among cs = any (λ (c : stream.AttributeGroup). same_space c.space a.space && keeps_group t m c) (map as_stream cs)

    none_further : (c : AttributeSection (dispatch t)) → is_of a c ≡ true → (cs : List (AttributeSection (dispatch t))) → All (λ d. is_of d.first c ≡ false) cs → among cs ≡ false
    unfolding any
    none_further c e [] h = refl
    none_further c e (d ∷ cs) h = by (is_of a d) refl (none_further c e cs h.1)
      where
        by : (b : Bool) → is_of a d ≡ b → among cs ≡ false → (b && keeps_group t m (as_stream d) || among cs) ≡ false
        by false q ih = ih
        by true q ih =
            let here : c.first.space.bytes ≡ a.space.bytes = same_eq c.first.space.bytes a.space.bytes e in
            let there : d.first.space.bytes ≡ a.space.bytes = same_eq d.first.space.bytes a.space.bytes q in
            absurd (differ (sym (ap (λ (x : List ℕ). same_list x d.first.space.bytes) (here ∙ sym there) ∙ same_refl d.first.space.bytes) ∙ h.0))

    found : (cs : List (AttributeSection (dispatch t))) → Apart cs → Holds a cs → among cs ≡ elim (section_among (dispatch t) cs a) [ none ↦ true | some c ↦ attached (dispatch t) m c ]
    unfolding any
    found [] p h = absurd h
    found (c ∷ cs) p h = by (is_of a c) refl h (found cs p.1)
      where
        by : (b : Bool) → is_of a c ≡ b → (is_of a c ≡ true) ⊎ Holds a cs → (Holds a cs → among cs ≡ elim (section_among (dispatch t) cs a) [ none ↦ true | some c ↦ attached (dispatch t) m c ])
            → (b && keeps_group t m (as_stream c) || among cs) ≡ elim (cond b (some c) (section_among (dispatch t) cs a)) [ none ↦ true | some c ↦ attached (dispatch t) m c ]
        by true e h ih = ap (λ (x : Bool). keeps_group t m (as_stream c) || x) (none_further c e cs p.0) ∙ or-false (keeps_group t m (as_stream c)) ∙ attach_same m c
        by false e (inl q) ih = absurd (differ (sym q ∙ e))
        by false e (inr k) ih = ih k

  -- An attribute is kept by the stream where the model keeps it.
  kept_same : (m : ℕ) (e : Element) (a : Attribute) → In a e.attributes → cond (kept t m e a) (attribute_bodies a) [] ≡ kept_bodies (dispatch t) m (record { attribute = a; section = cond (stays e a) none (section_among (dispatch t) (attribute_sections (dispatch t) e) a) })
  unfolding kept
  kept_same m e a i = by (stays e a) refl
    where
      by : (b : Bool) → stays e a ≡ b → cond (b || any (λ (c : stream.AttributeGroup). same_space c.space a.space && keeps_group t m c) (groups_of e)) (attribute_bodies a) [] ≡ kept_bodies (dispatch t) m (record { attribute = a; section = cond b none (section_among (dispatch t) (attribute_sections (dispatch t) e) a) })
      by true q = refl
      by false q =
          let others = keep (λ (x : Attribute). not (stays e x)) e.attributes in
          let here : In a others = in_kept (λ (x : Attribute). not (stays e x)) a e.attributes i (ap not q) in
          ap (λ (x : Bool). cond x (attribute_bodies a) [])
          (ap (any (λ (c : stream.AttributeGroup). same_space c.space a.space && keeps_group t m c)) (sections_same e) ∙ found m a (attribute_sections (dispatch t) e) (apart_formed others [] tt) (formed_holds a others [] here))

  starts_same : (m : ℕ) (e : Element) → map holds (start_bodies t m e) ≡ start_pieces (dispatch t) m e (tag_attributes (dispatch t) e)
  unfolding start_bodies keep gather
  starts_same m e = ap (λ (bs : List Body). map holds (start_body e ∷ bs)) (by e.attributes (λ a i. i))
    where
      tagged : Attribute → TagAttribute (dispatch t)
      tagged a = record { attribute = a; section = cond (stays e a) none (section_among (dispatch t) (attribute_sections (dispatch t) e) a) }

      one : (b : Bool) (a : Attribute) (l : List Attribute) → gather attribute_bodies (cond b (a ∷ l) l) ≡ cond b (attribute_bodies a) [] ++ gather attribute_bodies l
      one true a l = refl
      one false a l = refl

      by : (l : List Attribute) → ((a : Attribute) → In a l → In a e.attributes) → gather attribute_bodies (keep (kept t m e) l) ≡ gather (kept_bodies (dispatch t) m) (map tagged l)
      by [] h = refl
      by (a ∷ l) h = one (kept t m e a) a (keep (kept t m e) l) ∙ ap₂ (λ (x y : List Body). x ++ y) (kept_same m e a (h a (inl refl))) (by l (λ x i. h x (inr i)))

  pub agree : Agree (dispatch t)
  agree = record { units = units_same; starts = starts_same }
