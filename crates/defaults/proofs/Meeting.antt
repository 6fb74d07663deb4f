-- N3: "Where every strand meets a rule at every element and attribute section, no record changes."
--     met_step                      a step is the same under both defaults where the strands meet rules at what is read next
--     met_advance, met_run          so are steps of which each is such a step
--     now, before, element_same     a table under the standard's and under the former defaults; an element is the same
use Prim.Native.Nat.{ℕ, zero, suc, ◌+◌, ◌*◌, ◌<◌}
use mathlib.Core.Path.{◌≡◌, refl, sym, ap, ap₂, subst, ◌∙◌, fun_ext}
use mathlib.Core.List.{List, [], ◌∷◌, ◌++◌, map}
use mathlib.Core.Bool.{Bool, true, false, cond, ◌&&◌, ◌||◌}
use mathlib.Core.Option.{none}
use native.Mathlib.Omega.{arith}
use lib.ListN.{length}
use lib.Dec.{leb, ltb, eqb}
use Rattle.laws.specs.Lists.{any, keep}
use Rattle.laws.specs.Gather.{gather}
use Rattle.laws.specs.Members.{All}
use Rattle.laws.proofs.Elementwise.{any_same, gather_same}
use Rattle.table.specs.Table.{Table, Default, header_of, rules_of, fallback, taken_of, all_rules, standard, former, decode_by, class_of}
use Rattle.table.specs.declared.Rule.{Rule}
use Rattle.reader.specs.Events as scene
use Rattle.reader.specs.declared.Binding.{Binding}
use Rattle.reader.specs.declared.Span.{Span}
use Rattle.model.specs.Theory.{AttributeUnit, holds, Record}
use Rattle.model.specs.Tree.{start, text, end}
use Rattle.model.specs.Elements.{Attribute, Element, attribute_of, element_of, space_of, same_space, stays}
use Rattle.model.specs.Records.{Body, start_body, attribute_bodies}
use Rattle.model.specs.Groups.{AttributeGroup, groups_of, unit_by, attribute_units, is_attach, kept, start_bodies}
use Rattle.model.specs.Stream.{HeldStrand, held_before_root, stay, by_rule, receiver, give, attributes_from, opening, start_records, Level, Entry, allot, new_units, take_rules, entries_at, units_of, written, after}
use Rattle.model.specs.Dispatch.{dispatch}
use Rattle.model.proofs.Steps.{allot_each}
use Rattle.sessions.specs.Sessions.{fresh_of, level_uri, level_in, levels_in, reader_of, state_of, with_place, with_end, with_start}
use Rattle.sessions.specs.Coherence.{coherent}
use Rattle.sessions.specs.Stepping.{Plan, refused, event, own_declarations, start_plan, plan_by, plan_of, Step, rest_of, joined, step_of, advance_of, run_by, run_of}
use Rattle.sessions.specs.Session.{Session}
use Rattle.defaults.specs.Meeting.{MeetsRule, taking, MeetsAt, MeetsNext}
use Rattle.defaults.proofs.SameTable.{some_taken}

-- what a start writes along its strands, behind its attribute units
abbrev along_by : ℕ → Element → Table → List (AttributeUnit Body) → List Entry → List (Record Body ℕ)
along_by units σ u us es = gather (start_records (dispatch u) σ) (allot (units + length us) es)

-- what a start plans, by the strands that enter; by its attribute units and what it writes along the strands
module _ (z : Session) (e : scene.Start) (own : List Binding) (place : ℕ) (σ : Element) where
  abbrev start_by : List Entry → List (AttributeUnit Body) → List (Record Body ℕ) → Plan
  start_by es us rs =
      cond (leb 64 z.scope.depth) (refused 21 e.at)
      (cond (ltb 64 (z.scope.bound + length own)) (refused 22 e.at)
      (cond (ltb 16 (length es)) (refused 23 e.at)
      (cond (ltb 65536 (z.units + length us + new_units es)) (refused 24 e.at)
      (event e.at (attributes_from (λ (n : ℕ). n) z.units us ++ rs)
      (with_start z place e.empty (z.units + length us + new_units es) e.name own σ.space (map (λ (x : Entry). x.strand) (allot (z.units + length us) es)))))))

  abbrev start_in : Table → List Entry → Plan
  start_in u es = start_by es (units_of (dispatch u) σ es) (along_by z.units σ u (units_of (dispatch u) σ es) es)

start_in_lem : (u : Table) (s : List ℕ) (z : Session) (e : scene.Start) (own : List Binding) (place : ℕ)
    → start_plan u s z e own place ≡ start_in z e own place (element_of u s e) u (entries_at (dispatch u) (state_of u s z).levels (element_of u s e))
unfolding start_plan written after
start_in_lem u s z e own place = refl

module _ (t : List ℕ) where
  abbrev pub now : Table
  now = decode_by standard t

  abbrev pub before : Table
  before = decode_by former t

  -- a level, its strands and what it keeps of its start the same
  abbrev recast : Level (dispatch now) → Level (dispatch before)
  recast l = record { at = l.at; strands = l.strands }

  levels_same : (s : List ℕ) (z : Session) (k : ℕ) → levels_in before s z k ≡ map recast (levels_in now s z k)
  unfolding levels_in level_in level_uri
  levels_same s z zero = refl
  levels_same s z (suc k) = ap (λ (ls : List (Level (dispatch before))). level_in before s z k ∷ ls) (levels_same s z k)

  pub element_same : (s : List ℕ) (e : scene.Start) → element_of before s e ≡ element_of now s e
  unfolding element_of attribute_of space_of class_of
  element_same s e = refl

  coherent_same : (s : List ℕ) (z : Session) → coherent now s z ≡ coherent before s z
  unfolding coherent
  coherent_same s z = refl

  -- a strand that meets a rule takes no default
  met_taken : (d d' : Default) (kind mode class : ℕ) → MeetsRule t kind class mode → taken_of (header_of t) (all_rules t (header_of t)) d kind mode class ≡ taken_of (header_of t) (all_rules t (header_of t)) d' kind mode class
  unfolding taken_of
  met_taken d d' kind mode class m =
      ap (λ (rs : List Rule). cond (ltb mode (header_of t).modes) rs [])
      (some_taken (rules_of (all_rules t (header_of t)) mode kind class) (fallback d kind mode ∷ []) (fallback d' kind mode ∷ []) m)

  module _ (σ : Element) where
    abbrev ElementMet : HeldStrand ℕ → Type 0
    ElementMet r = MeetsRule t 0 σ.space.class r.mode

    abbrev AttributesMet : ℕ → Type 0
    AttributesMet mode = All (λ (c : AttributeGroup). MeetsRule t 1 c.space.class mode) (groups_of σ)

    take_met : (rs : List (HeldStrand ℕ)) → All ElementMet rs → take_rules (dispatch now) σ rs ≡ take_rules (dispatch before) σ rs
    take_met rs m =
        gather_same ElementMet _ _
        (λ r p. ap (map (λ (q : Rule). record { strand = by_rule q.action q.next none r.target; schema = q.schema })) (met_taken standard.element former.element 0 r.mode σ.space.class p))
        rs m

    entries_met : (ls : List (Level (dispatch now))) → All ElementMet (taking t ls σ) → entries_at (dispatch now) ls σ ≡ entries_at (dispatch before) (map recast ls) σ
    entries_met [] m = take_met (held_before_root ∷ []) m
    entries_met (l ∷ ls) m = by (same_space l.at.space σ.space) m
      where
        stays_in : List Entry
        stays_in = map (λ (r : HeldStrand ℕ). record { strand = stay r; schema = 0 }) l.strands

        by : (b : Bool) → All ElementMet (cond b [] l.strands) → cond b stays_in (take_rules (dispatch now) σ l.strands) ≡ cond b stays_in (take_rules (dispatch before) σ l.strands)
        by true p = refl
        by false p = take_met l.strands p

    -- along a strand in a mode
    group_met : (mode : ℕ) (c : AttributeGroup) → MeetsRule t 1 c.space.class mode → now.attribute_rules mode c.space.class ≡ before.attribute_rules mode c.space.class
    group_met mode c p = met_taken standard.attribute former.attribute 1 mode c.space.class p

    units_met : (mode : ℕ) → AttributesMet mode → attribute_units now mode σ ≡ attribute_units before mode σ
    unfolding attribute_units
    units_met mode m =
        gather_same (λ (c : AttributeGroup). MeetsRule t 1 c.space.class mode) _ _ (λ c p. ap (gather (λ (r : Rule). unit_by σ c r.action r.schema)) (group_met mode c p)) (groups_of σ) m

    bodies_met : (mode : ℕ) → AttributesMet mode → start_bodies now mode σ ≡ start_bodies before mode σ
    unfolding start_bodies kept
    bodies_met mode m =
        ap (λ (p : Attribute → Bool). start_body σ ∷ gather attribute_bodies (keep p σ.attributes))
        (fun_ext (λ a. ap (λ (b : Bool). stays σ a || b)
        (any_same (λ (c : AttributeGroup). MeetsRule t 1 c.space.class mode) _ _
        (λ c p. ap (λ (rs : List Rule). same_space c.space a.space && any (λ (r : Rule). is_attach r.action) rs) (group_met mode c p)) (groups_of σ) m)))

    all_units_met : (es : List Entry) → All (λ (e : Entry). AttributesMet e.strand.mode) es → units_of (dispatch now) σ es ≡ units_of (dispatch before) σ es
    all_units_met es m = gather_same (λ (e : Entry). AttributesMet e.strand.mode) _ _ (λ e p. units_met e.strand.mode p) es m

    records_met : (u : ℕ) (es : List Entry) → All (λ (e : Entry). AttributesMet e.strand.mode) es → gather (start_records (dispatch now) σ) (allot u es) ≡ gather (start_records (dispatch before) σ) (allot u es)
    records_met u es m =
        gather_same (λ (e : Entry). AttributesMet e.strand.mode) _ _
        (λ e p. ap (λ (bs : List Body). give (receiver e.strand.action e.strand.target) (opening (dispatch now) σ e.schema e.strand.here ++ map holds bs)) (bodies_met e.strand.mode p))
        (allot u es) (allot_each AttributesMet u es m)

  -- a text and an end take no rules
  inner_same : (w : Span) (ls : List (Level (dispatch now))) (u : ℕ)
      → (written (dispatch now) (record { levels = ls; units = u }) (text w) ≡ written (dispatch before) (record { levels = map recast ls; units = u }) (text w))
      × (written (dispatch now) (record { levels = ls; units = u }) (end w) ≡ written (dispatch before) (record { levels = map recast ls; units = u }) (end w))
  unfolding written
  inner_same w [] u = (refl, refl)
  inner_same w (l ∷ ls) u = (refl, refl)

  module _ (s : List ℕ) (z : Session) where
    abbrev levels : List (Level (dispatch now))
    levels = (state_of now s z).levels

    written_same : (w : Span) → (written (dispatch now) (state_of now s z) (text w) ≡ written (dispatch before) (state_of before s z) (text w))
        × (written (dispatch now) (state_of now s z) (end w) ≡ written (dispatch before) (state_of before s z) (end w))
    written_same w = rw (levels_same s z z.scope.depth) (inner_same w levels z.units)

    start_met : (e : scene.Start) (own : List Binding) (place : ℕ) → MeetsAt t levels (element_of now s e) → start_plan now s z e own place ≡ start_plan before s z e own place
    start_met e own place m =
        let σ : Element = element_of now s e in
        let es : List Entry = entries_at (dispatch now) levels σ in
        let units = all_units_met σ es m.attributes in
        start_in_lem now s z e own place
        ∙ ap₂ (start_by z e own place σ es) units (records_met σ _ es m.attributes ∙ ap (λ (us : List (AttributeUnit Body)). along_by z.units σ before us es) units)
        ∙ ap (start_in z e own place σ before) (entries_met σ levels m.element)
        ∙ ap₂ (λ (ls : List (Level (dispatch before))) (τ : Element). start_in z e own place τ before (entries_at (dispatch before) ls τ)) (sym (levels_same s z z.scope.depth)) (sym (element_same s e))
        ∙ sym (start_in_lem before s z e own place)

    event_met : (x : scene.Next) → ((e : scene.Start) (w : scene.ReaderState) → x ≡ scene.event (scene.start e) w → MeetsAt t levels (element_of now s e)) → plan_by now s z x ≡ plan_by before s z x
    event_met (scene.event (scene.start e) w) m = start_met e (own_declarations w.opened) w.place (m e w refl)
    event_met (scene.event (scene.text v) w) m = ap (λ (rs : List (Record Body ℕ)). event v.at rs (with_place z w.place)) (written_same v).0
    event_met (scene.event (scene.end part at) w) m = ap (λ (rs : List (Record Body ℕ)). event at rs (with_end z w.place w.closed)) (written_same part).1
    event_met (scene.refusal n p) m = refl
    event_met (scene.finished p) m = refl

    plan_met : MeetsNext t s z → plan_of now s z ≡ plan_of before s z
    unfolding plan_of
    plan_met m = event_met (scene.next s (reader_of z)) m

  pub met_step : (s : List ℕ) (z : Session) → MeetsNext t s z → (out : List ℕ) → step_of standard t s z out ≡ step_of former t s z out
  unfolding step_of
  met_step s z m out = rw (coherent_same s z, plan_met s z m)

  -- each session on the way meets rules
  pub met_advance : (n : ℕ) (s : List ℕ) (z : Session) (out : List ℕ) → ((k : ℕ) → k < n → MeetsNext t s (advance_of standard k t s z out).session) → advance_of standard n t s z out ≡ advance_of former n t s z out
  unfolding advance_of
  met_advance zero s z out m = refl
  met_advance (suc n) s z out m =
      by (eqb r.answer.number 0) refl (met_advance n s r.session (rest_of r))
      ∙ ap (λ (q : Step). cond (eqb q.answer.number 0) (joined q (advance_of former n t s q.session (rest_of q))) q) (met_step s z (m 0 (omega arith)) out)
    where
      r : Step
      r = step_of standard t s z out

      later : ℕ → Step
      later k = advance_of standard k t s r.session (rest_of r)

      by : (b : Bool) → b ≡ eqb r.answer.number 0 → (((k : ℕ) → k < n → MeetsNext t s (later k).session) → later n ≡ advance_of former n t s r.session (rest_of r))
          → cond b (joined r (later n)) r ≡ cond b (joined r (advance_of former n t s r.session (rest_of r))) r
      by true e ih = ap (joined r) (ih (λ k lt. subst (λ (b : Bool). MeetsNext t s (cond b (joined r (later k)) r).session) (sym e) (m (suc k) (omega arith))))
      by false e ih = refl

  pub met_run : (s out : List ℕ) → ((n : ℕ) → MeetsNext t s (advance_of standard n t s fresh_of out).session) → run_of standard t s out ≡ run_of former t s out
  unfolding run_of
  met_run s out m = ap run_by (met_advance (2 * length s + 2) s fresh_of out (λ k lt. m k))
