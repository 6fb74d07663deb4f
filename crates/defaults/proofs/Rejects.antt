-- N3: "Where a mode has no rule for an element section, it is validated against reject .. Reject is schema 255, whatever S is, with URI fields zero in its
-- open": of an accepted table an open of class 255 stands exactly where a strand takes rules and has none, one for each such strand, in their order.
--     rejects_model     in the model's list of a document, event by event
--     rejects_cut       in that of the first so many events of a scene, the tree closed behind them: `expected` has its bytes
use Prim.Native.Nat.{ℕ, suc, ◌+◌, ◌<◌}
use mathlib.Core.Path.{◌≡◌, refl, sym, ap, ap₂, subst, ◌∙◌}
use mathlib.Core.List.{List, [], ◌∷◌, ◌++◌, map, tail, append-nil}
use mathlib.Core.Bool.{Bool, true, false, cond}
use mathlib.Core.Logic.{⊎_elim}
use mathlib.Core.Option.{Option, none, some}
use native.Mathlib.Omega.{arith}
use borrow.Author.Tests.{lt-ltb, ltb-true, ne_eqb, eqb-true}
use lib.ListN.{length, take}
use lib.Seq.{take_all}
use lib.Dec.{eqb, ltb}
use Rattle.laws.specs.Gather.{gather}
use Rattle.laws.specs.Members.{All}
use Rattle.laws.specs.Reading.{le_or_lt}
use Rattle.laws.proofs.Flags.{differ}
use Rattle.laws.proofs.Gather.{gather_append}
use Rattle.laws.proofs.Holds.{holds_cond}
use Rattle.laws.proofs.Members.{all_by}
use Rattle.table.specs.Table.{Default, header_of, or_else, rules_of, standard, fallback, taken_of, all_rules, decode}
use Rattle.table.specs.Judge.{Accepted}
use Rattle.table.specs.declared.Header.{Header}
use Rattle.table.specs.declared.Rule.{Rule}
use Rattle.table.proofs.Accepted.{header_in, SchemaIn, RuleIn, rule_in}
use Rattle.table.proofs.Rules.{taken_in}
use Rattle.reader.specs.declared.Span.{Span}
use Rattle.reader.specs.Events.{Event, events}
use Rattle.model.specs.Theory.{Theory, Action, Attach, Unwrap, Validate, AttributeUnit, opens, holds, Record}
use Rattle.model.specs.Tree.{TreeEvent, start, text, end, Tree, tree_events}
use Rattle.model.specs.Elements.{Attribute, Element}
use Rattle.model.specs.Records.{Body, attribute_bodies, open_body, virtual_end, text_body, close_body, OpenElement, end_body}
use Rattle.model.specs.Groups.{AttributeGroup, groups_of, unit_by, attribute_units, start_bodies}
use Rattle.model.specs.Model.{model}
use Rattle.model.specs.Stream.{HeldStrand, held_before_root, stay, by_rule, receiver, give, attributes_from, start_records, Level, State, Entry, allot, take_rules, entries_at, units_of, text_records, end_records, written, after, fresh, stream_from, stream_of}
use Rattle.model.specs.Dispatch.{dispatch, told}
use Rattle.model.proofs.Lists.{gather_nothing, gather_nothing_on, gather_gather, gather_map, gather_same_on, all_append, all_weaken, every, all_gather, all_map}
use Rattle.model.proofs.Attributes.{agree}
use Rattle.model.proofs.Cut.{IsPrefix}
use Rattle.model.proofs.Theorems.{stream_of_completed}
use Rattle.model.proofs.Tables.{one, stream_is_model}
use Rattle.demands.proofs.Expected.{first_prefix}
use Rattle.defaults.specs.Former.{cut_list}
use Rattle.defaults.specs.Meeting.{taking}
use Rattle.defaults.specs.Rejects.{is_reject, reject_in, rejects_in, reject_of, no_rule, lacks_rule, rejects_at, rejects_from}
use Rattle.model.proofs.Steps.{allot_each}
use Rattle.sessions.proofs.NewStrands.{enter_modes_lem}

-- ---- records that are no such open
abbrev Other : Body → Type 0
Other b = is_reject b ≡ false

joined_to : (xs ys : List (Record Body ℕ)) (bs cs : List Body) → rejects_in xs ≡ bs → rejects_in ys ≡ cs → rejects_in (xs ++ ys) ≡ bs ++ cs
joined_to xs ys bs cs p q = gather_append reject_in xs ys ∙ ap₂ ◌++◌ p q

held_none : (o : Option ℕ) (bs : List Body) → All Other bs → rejects_in (give o (map holds bs)) ≡ []
unfolding gather
held_none none bs h = refl
held_none (some u) [] h = refl
held_none (some u) (b ∷ bs) h = rw (h.0, held_none (some u) bs h.1)

attribute_others : (as' : List Attribute) → All Other (gather attribute_bodies as')
attribute_others as' = all_gather Other attribute_bodies as' (every (λ a. (refl, (refl, tt))) as')

abbrev OtherUnit : AttributeUnit Body → Type 0
OtherUnit a = Other a.opening × All Other (a.held ++ (a.closing ∷ []))

units_none : (j : ℕ) (us : List (AttributeUnit Body)) → All OtherUnit us → rejects_in (attributes_from (λ n. n) j us) ≡ []
unfolding gather
units_none j [] h = refl
units_none j (a ∷ us) h =
    let bodies = a.held ++ (a.closing ∷ []) in
    rw h.0.0 (joined_to (give (some j) (map holds bodies)) (attributes_from (λ n. n) (suc j) us) [] [] (held_none (some j) bodies h.0.1) (units_none (suc j) us h.1))

-- what an entry that has its unit gives, by its schema
abbrev by_entry : Element → Entry → List Body
by_entry σ e = cond e.strand.here (cond (eqb e.schema 255) (reject_of σ ∷ []) []) []

-- only validate opens a unit
abbrev OpensBy : Action → Bool → Type 0
OpensBy Attach here = here ≡ false
OpensBy Unwrap here = here ≡ false
OpensBy Validate here = Unit {0}

abbrev OpensRight : Entry → Type 0
OpensRight e = OpensBy e.strand.action e.strand.here

by_schema : (σ : Element) (n : ℕ) → cond (is_reject (open_body n σ)) (open_body n σ ∷ []) [] ≡ cond (eqb n 255) (reject_of σ ∷ []) []
by_schema σ n = by (eqb n 255) refl
  where
    by : (b : Bool) → eqb n 255 ≡ b → cond b (open_body n σ ∷ []) [] ≡ cond b (reject_of σ ∷ []) []
    by true e = ap (λ (c : ℕ). open_body c σ ∷ []) (eqb-true n 255 e)
    by false e = refl

open_first : (σ : Element) (u n : ℕ) (bs : List Body) → All Other bs → rejects_in (give (some u) (opens (open_body n σ) ∷ map holds bs)) ≡ cond (eqb n 255) (reject_of σ ∷ []) []
unfolding gather
open_first σ u n bs h = rw (held_none (some u) bs h) (append-nil _ ∙ by_schema σ n)

module _ (t : List ℕ) (σ : Element) where
  start_others : (mode : ℕ) → All Other (start_bodies (decode t) mode σ)
  unfolding start_bodies
  start_others mode = (refl, attribute_others _)

  -- along the strands, their new units numbered
  along : (u : ℕ) (es : List Entry) → All OpensRight es → rejects_in (gather (start_records (dispatch (decode t)) σ) (allot u es)) ≡ gather (by_entry σ) es
  unfolding gather
  along u [] k = refl
  along u (e ∷ es) k = by e.strand.mode e.strand.action e.strand.target e.strand.here e.schema k.0 (λ v. along v es k.1)
    where
      by : (m : ℕ) (c : Action) (o : Option ℕ) (b : Bool) (n : ℕ) → OpensBy c b → ((v : ℕ) → rejects_in (gather (start_records (dispatch (decode t)) σ) (allot v es)) ≡ gather (by_entry σ) es)
          → rejects_in (gather (start_records (dispatch (decode t)) σ) (allot u (record { strand = record { mode = m; action = c; target = o; here = b }; schema = n } ∷ es)))
          ≡ cond b (cond (eqb n 255) (reject_of σ ∷ []) []) [] ++ gather (by_entry σ) es
      by m c o false n l ih = joined_to (give (receiver c o) (map holds (start_bodies (decode t) m σ))) (gather (start_records (dispatch (decode t)) σ) (allot u es)) [] (gather (by_entry σ) es) (held_none (receiver c o) (start_bodies (decode t) m σ) (start_others m)) (ih u)
      by m Attach o true n l ih = absurd (differ l)
      by m Unwrap o true n l ih = absurd (differ l)
      by m Validate o true n l ih =
          joined_to (give (some u) (opens (open_body n σ) ∷ map holds (start_bodies (decode t) m σ))) (gather (start_records (dispatch (decode t)) σ) (allot (suc u) es)) (cond (eqb n 255) (reject_of σ ∷ []) []) (gather (by_entry σ) es)
          (open_first σ u n (start_bodies (decode t) m σ) (start_others m)) (ih (suc u))

-- ---- an accepted table
module _ (t : List ℕ) (a : Accepted t ≡ true) where
  abbrev h : Header
  h = header_of t

  abbrev Θ : Theory
  Θ = dispatch (decode t)

  abbrev ModeIn : HeldStrand ℕ → Type 0
  ModeIn r = r.mode < h.modes

  abbrev LevelIn : Level Θ → Type 0
  LevelIn l = All ModeIn l.strands

  -- what a strand without a rule makes
  abbrev lacking : Element → HeldStrand ℕ → List Body
  lacking σ r = cond (lacks_rule t σ.space.class r.mode) (reject_of σ ∷ []) []

  rules_in_lem : (mode kind class : ℕ) → All (RuleIn h) (rules_of (all_rules t h) mode kind class)
  rules_in_lem mode kind class = all_by (RuleIn h) (rules_of (all_rules t h) mode kind class) (λ r m. rule_in t a r (taken_in (all_rules t h) mode kind class r m).0)

  -- "255 is no schema of a rule"
  schema_other : (n : ℕ) → n < h.schemas → eqb n 255 ≡ false
  schema_other n l = ne_eqb n 255 (λ e. omega (arith, (header_in t a).few_schemas))

  -- of the rules taken: of the table's, and of the default where it has none
  taken_each : (P : Rule → Type 0) (d : Default) (kind mode class : ℕ) → ((r : Rule) → RuleIn h r → P r) → (mode < h.modes → P (fallback d kind mode)) → All P (taken_of h (all_rules t h) d kind mode class)
  unfolding taken_of
  taken_each P d kind mode class p q =
      holds_cond (All P) (ltb mode h.modes) (λ e. by (rules_of (all_rules t h) mode kind class) (all_weaken (RuleIn h) P p (rules_of (all_rules t h) mode kind class) (rules_in_lem mode kind class)) (q (ltb-true mode h.modes e))) (λ e. tt)
    where
      by : (rs : List Rule) → All P rs → P (fallback d kind mode) → All P (or_else rs (fallback d kind mode ∷ []))
      by [] k l = (l, tt)
      by (r ∷ rs) k l = k

  -- ---- attribute units
  attribute_unit_lem : (σ : Element) (c : AttributeGroup) (x : Action) (n : ℕ) → SchemaIn h.schemas x n → All OtherUnit (unit_by σ c x n)
  attribute_unit_lem σ c Attach n l = tt
  attribute_unit_lem σ c Unwrap n l = tt
  attribute_unit_lem σ c Validate n l =
      let bodies = gather attribute_bodies c.members in
      ((schema_other n l, (refl, all_append Other (bodies ++ (virtual_end ∷ [])) (close_body ∷ []) (all_append Other bodies (virtual_end ∷ []) (attribute_others c.members) (refl, tt)) (refl, tt))), tt)

  attribute_units_lem : (σ : Element) (es : List Entry) → All OtherUnit (units_of (dispatch (decode t)) σ es)
  unfolding attribute_units
  attribute_units_lem σ es =
      all_gather OtherUnit (λ (e : Entry). attribute_units (decode t) e.strand.mode σ) es (every (λ e.
      all_gather OtherUnit (λ (c : AttributeGroup). gather (λ (r : Rule). unit_by σ c r.action r.schema) ((decode t).attribute_rules e.strand.mode c.space.class)) (groups_of σ) (every (λ c.
      all_gather OtherUnit (λ (r : Rule). unit_by σ c r.action r.schema) ((decode t).attribute_rules e.strand.mode c.space.class)
      (taken_each (λ (r : Rule). All OtherUnit (unit_by σ c r.action r.schema)) standard.attribute 1 e.strand.mode c.space.class (λ r k. attribute_unit_lem σ c r.action r.schema k.schema_in) (λ l. tt)))
      (groups_of σ))) es)

  -- ---- strands
  module _ (σ : Element) where
    abbrev made : HeldStrand ℕ → Rule → Entry
    made r q = record { strand = by_rule q.action q.next none r.target; schema = q.schema }

    made_other : (x : Action) (next n : ℕ) (o : Option ℕ) → SchemaIn h.schemas x n → by_entry σ (record { strand = by_rule x next none o; schema = n }) ≡ []
    made_other Attach next n o l = refl
    made_other Unwrap next n o l = refl
    made_other Validate next n o l = ap (λ (b : Bool). cond b (reject_of σ ∷ []) []) (schema_other n l)

    by_strand : (r : HeldStrand ℕ) → r.mode < h.modes → gather (by_entry σ) (map (made r) ((decode t).element_rules r.mode σ.space.class)) ≡ cond (lacks_rule t σ.space.class r.mode) (reject_of σ ∷ []) []
    unfolding taken_of gather
    by_strand r l = rw (lt-ltb r.mode h.modes l) (by (rules_of (all_rules t h) r.mode 0 σ.space.class) (rules_in_lem r.mode 0 σ.space.class))
      where
        by : (rs : List Rule) → All (RuleIn h) rs → gather (by_entry σ) (map (made r) (or_else rs (fallback standard.element 0 r.mode ∷ []))) ≡ cond (no_rule rs) (reject_of σ ∷ []) []
        by [] k = refl
        by (q ∷ qs) k =
            gather_map (by_entry σ) (made r) (q ∷ qs)
            ∙ gather_nothing_on (λ (p : Rule). by_entry σ (made r p)) (q ∷ qs) (all_weaken (RuleIn h) _ (λ p w. made_other p.action p.next p.schema r.target w.schema_in) (q ∷ qs) k)

    right : (x : Action) (next : ℕ) (o : Option ℕ) → OpensBy (by_rule {U = ℕ} x next none o).action (by_rule {U = ℕ} x next none o).here
    right Attach next o = refl
    right Unwrap next o = refl
    right Validate next o = tt

    take_right : (rs : List (HeldStrand ℕ)) → All OpensRight (take_rules Θ σ rs)
    take_right rs =
        all_gather OpensRight (λ (r : HeldStrand ℕ). map (made r) (Θ.element_rules r.mode σ)) rs
        (every (λ r. all_map OpensRight (made r) (Θ.element_rules r.mode σ) (every (λ q. right q.action q.next r.target) (Θ.element_rules r.mode σ))) rs)

    take_rejects : (rs : List (HeldStrand ℕ)) → All ModeIn rs → gather (by_entry σ) (take_rules Θ σ rs) ≡ gather (lacking σ) rs
    take_rejects rs k = gather_gather (by_entry σ) (λ (r : HeldStrand ℕ). map (made r) (Θ.element_rules r.mode σ)) rs ∙ gather_same_on _ (lacking σ) rs (all_weaken ModeIn _ by_strand rs k)

    -- inside a section no strand takes rules
    abbrev staying : HeldStrand ℕ → Entry
    staying r = record { strand = stay r; schema = 0 }

    stays : (x : Action) → OpensBy x false
    stays Attach = refl
    stays Unwrap = refl
    stays Validate = tt

    enter_right : (ls : List (Level Θ)) → All OpensRight (entries_at Θ ls σ)
    enter_right [] = take_right (held_before_root ∷ [])
    enter_right (l ∷ ls) = holds_cond (All OpensRight) (Θ.same_section l.at σ) (λ e. all_map OpensRight staying l.strands (every (λ r. stays r.action) l.strands)) (λ e. take_right l.strands)

    enter_rejects : (ls : List (Level Θ)) → All LevelIn ls → gather (by_entry σ) (entries_at Θ ls σ) ≡ gather (lacking σ) (taking t ls σ)
    unfolding gather
    enter_rejects [] k = take_rejects (held_before_root ∷ []) ((header_in t a).some_mode, tt)
    enter_rejects (l ∷ ls) k = by (Θ.same_section l.at σ)
      where
        by : (b : Bool) → gather (by_entry σ) (cond b (map staying l.strands) (take_rules Θ σ l.strands)) ≡ gather (lacking σ) (cond b [] l.strands)
        by true = gather_map (by_entry σ) staying l.strands ∙ gather_nothing (λ (r : HeldStrand ℕ). by_entry σ (staying r)) (λ r. refl) l.strands
        by false = take_rejects l.strands k.0

  -- ---- an event
  end_none : (o : Option ℕ) (k : OpenElement) (w : Span) (b : Bool) → rejects_in (give o (holds (end_body k w) ∷ cond b (holds close_body ∷ []) [])) ≡ []
  end_none o k w true = held_none o (end_body k w ∷ close_body ∷ []) (refl, (refl, tt))
  end_none o k w false = held_none o (end_body k w ∷ []) (refl, tt)

  inner_none : (w : Span) (u : ℕ) (ls : List (Level Θ)) → (rejects_in (written Θ (record { levels = ls; units = u }) (text w)) ≡ []) × (rejects_in (written Θ (record { levels = ls; units = u }) (end w)) ≡ [])
  unfolding written gather
  inner_none w u [] = (refl, refl)
  inner_none w u (l ∷ ls) = (
    gather_gather reject_in (text_records Θ w) l.strands ∙ gather_nothing (λ (r : HeldStrand ℕ). rejects_in (text_records Θ w r)) (λ r. held_none (receiver r.action r.target) (text_body w ∷ []) (refl, tt)) l.strands,
    gather_gather reject_in (end_records Θ l.at w) l.strands ∙ gather_nothing (λ (r : HeldStrand ℕ). rejects_in (end_records Θ l.at w r)) (λ r. end_none (receiver r.action r.target) l.at w r.here) l.strands,
  )

  rejects_event : (z : State Θ) → All LevelIn z.levels → (e : TreeEvent Θ) → rejects_in (written Θ z e) ≡ rejects_at t z e
  unfolding written
  rejects_event z k (start σ) =
      let es = entries_at Θ z.levels σ in
      let us = units_of Θ σ es in
      joined_to (attributes_from (λ n. n) z.units us) (gather (start_records Θ σ) (allot (z.units + length us) es)) [] (gather (lacking σ) (taking t z.levels σ))
      (units_none z.units us (attribute_units_lem σ es)) (along t σ (z.units + length us) es (enter_right σ z.levels) ∙ enter_rejects σ z.levels k)
  rejects_event z k (text w) = (inner_none w z.units z.levels).0
  rejects_event z k (end w) = (inner_none w z.units z.levels).1

  tail_in : (ls : List (Level Θ)) → All LevelIn ls → All LevelIn (tail ls)
  tail_in [] k = tt
  tail_in (l ∷ ls) k = k.1

  after_in : (z : State Θ) → All LevelIn z.levels → (e : TreeEvent Θ) → All LevelIn (after Θ z e).levels
  unfolding after
  after_in z k (start σ) =
      let es = entries_at Θ z.levels σ in
      let u = z.units + length (units_of Θ σ es) in
      (all_map ModeIn (λ (e : Entry). e.strand) (allot u es) (allot_each (λ (m : ℕ). m < h.modes) u es (enter_modes_lem t a z.levels σ k)), k)
  after_in z k (text w) = k
  after_in z k (end w) = tail_in z.levels k

  -- ---- all events
  rejects_stream : (es : List (TreeEvent Θ)) (z : State Θ) → All LevelIn z.levels → map rejects_in (stream_from Θ z es) ≡ rejects_from t z es
  unfolding stream_from
  rejects_stream [] z k = refl
  rejects_stream (e ∷ es) z k = ap₂ ◌∷◌ (rejects_event z k e) (rejects_stream es (after Θ z e) (after_in z k e))

  pub rejects_model : (d : Tree (dispatch (decode t))) → map rejects_in (model (dispatch (decode t)) d) ≡ rejects_from t (fresh (dispatch (decode t))) (tree_events (dispatch (decode t)) d)
  unfolding stream_of
  rejects_model d = ap (map rejects_in) (sym (stream_is_model t a d)) ∙ rejects_stream (tree_events Θ d) (fresh Θ) tt

  cut_prefix : (s : List ℕ) (k : ℕ) → IsPrefix Θ (map (told (decode t) s) (take k (events s)))
  cut_prefix s k =
      ⊎_elim (first_prefix (decode t) s k)
      (λ lt. subst (λ (es : List Event). IsPrefix Θ (map (told (decode t) s) es)) (take_all (length (events s)) (events s) (omega arith) ∙ sym (take_all k (events s) (omega arith))) (first_prefix (decode t) s (length (events s)) (omega arith)))
      (le_or_lt k (length (events s)))

  pub rejects_cut : (s : List ℕ) (k : ℕ) → map rejects_in (cut_list (decode t) s k) ≡ rejects_from t (fresh (dispatch (decode t))) (map (told (decode t) s) (take k (events s)))
  unfolding stream_of
  rejects_cut s k =
      let es = map (told (decode t) s) (take k (events s)) in
      ap (map rejects_in) (sym (stream_of_completed Θ (one t a) (agree (decode t)) es (cut_prefix s k))) ∙ rejects_stream es (fresh Θ) tt
