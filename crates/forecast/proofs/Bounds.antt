-- N2: "The record count is at most 34 times the strands of each event, summed, plus 4 for each attribute unit and 2 for each attribute in one."
--     event_bound_lem, scene_bound_lem     of one event, of the first so many
--     records_bound                of a forecast
use Prim.Native.Nat.{ℕ, zero, suc, ◌+◌, ◌*◌, ◌≤◌, ◌<◌}
use mathlib.Core.Path.{◌≡◌, refl, sym, ap, subst, ◌∙◌}
use mathlib.Core.List.{List, [], ◌∷◌, ◌++◌, map, map-append, append-nil}
use mathlib.Core.Bool.{Bool, true, false, cond, not}
use native.Mathlib.Omega.{arith}
use lib.ListN.{length, take, drop, get_or, length-append, length-map}
use lib.Dec.{eqb, ltb}
use lib.Seq.{split_at, take-suc}
use Rattle.laws.specs.Gather.{gather, total}
use Rattle.laws.specs.Members.{All}
use Rattle.laws.proofs.Gather.{gather_append, total_append}
use Rattle.laws.proofs.Holds.{holds_cond}
use Rattle.table.specs.Table.{Table, decode, standard}
use Rattle.table.specs.Judge.{judged, Accepted}
use Rattle.reader.specs.Events as scene
use Rattle.reader.specs.Events.{events}
use Rattle.reader.specs.Spans.{span}
use Rattle.model.specs.Theory.{Action, Attach, Unwrap, Validate, Rule, AttributeUnit, Piece, holds, Record}
use Rattle.model.specs.Tree.{TreeEvent, completed, tree_of}
use Rattle.model.specs.Elements.{Attribute, Element, element_of}
use Rattle.model.specs.Records.{Body, attribute_bodies, virtual_start, virtual_end, close_body}
use Rattle.model.specs.Groups.{AttributeGroup, groups_of, group_rules, unit_by, attribute_units}
use Rattle.model.specs.Stream.{State, Entry, entries_at, written, stream_of}
use Rattle.model.specs.Model.{Marked, WholeUnit, Assigned, assigned_at, assigned_of, cut_model, OneKeeps}
use Rattle.model.specs.Dispatch.{dispatch, told, piece_body}
use Rattle.model.proofs.Lists.{all_gather, every}
use Rattle.model.proofs.Events.{unit_pieces}
use Rattle.model.proofs.Attributes.{agree}
use Rattle.model.proofs.Tables.{one}
use Rattle.model.proofs.Cut.{IsPrefix}
use Rattle.model.proofs.Steps.{stream_step}
use Rattle.model.proofs.Theorems.{stream_of_completed}
use Rattle.model.proofs.Assigned.{attributes_at, assigned_units}
use Rattle.model.proofs.Count.{attribute_count}
use Rattle.sessions.specs.Stepping.{longest}
use Rattle.sessions.proofs.Followed.{event_few}
use Rattle.demands.specs.Scenes.{model_count}
use Rattle.demands.specs.Limits.{told_all, events_within}
use Rattle.demands.proofs.Prefixes.{told_first, told_first_length}
use Rattle.demands.proofs.Measures.{stream_after, strands_are, whole_prefix}
use Rattle.demands.proofs.Expected.{first_prefix}
use Rattle.demands.proofs.Limits.{within_all}
use Rattle.forecast.proofs.WrittenFew.{pairs_length, written_few}
use Rattle.forecast.specs.Forecasts.{no_figures, figures_of, forecast_of}
use Rattle.forecast.specs.Bounds.{sum_of, attribute_units_at, attributes_held, attribute_unit_count, unit_attribute_count, event_bound, scene_bound}
use Rattle.forecast.specs.declared.figures.Forecast.{Forecast}

-- ---- attribute units
abbrev is_attribute : Body → ℕ
is_attribute b = cond (eqb b.kind 2) 1 0

-- the attributes that pieces hold
abbrev held_in : List (Piece Body) → ℕ
held_in = total (λ p. is_attribute (piece_body p))

total_mapped : {A B : Type 0} (g : B → ℕ) (f : A → B) (xs : List A) → total g (map f xs) ≡ total (λ x. g (f x)) xs
unfolding total
total_mapped g f [] = refl
total_mapped g f (x ∷ xs) = ap (λ n. g (f x) + n) (total_mapped g f xs)

total_same : {A : Type 0} (f g : A → ℕ) → ((x : A) → f x ≡ g x) → (xs : List A) → total f xs ≡ total g xs
unfolding total
total_same f g h [] = refl
total_same f g h (x ∷ xs) = rw (h x, total_same f g h xs)

pairs_held : (l : List Attribute) → total is_attribute (gather attribute_bodies l) ≡ length l
unfolding gather total
pairs_held [] = refl
pairs_held (a ∷ l) = omega (arith, pairs_held l)

-- open, start, an attribute and a value for each, end, close
abbrev UnitCounted : AttributeUnit Body → Type 0
UnitCounted a = attribute_count a ≡ 4 + 2 * held_in (unit_pieces a)

unit_counted : (e : Element) (c : AttributeGroup) (a : Action) (schema : ℕ) → All UnitCounted (unit_by e c a schema)
unfolding total
unit_counted e c Attach schema = tt
unit_counted e c Unwrap schema = tt
unit_counted e c Validate schema =
    let l = c.members in
    let pairs = gather attribute_bodies l in
    let bodies : List Body = (virtual_start ∷ pairs ++ (virtual_end ∷ [])) ++ (close_body ∷ []) in
    let held : held_in (map holds bodies) ≡ total is_attribute bodies = total_mapped (λ (p : Piece Body). is_attribute (piece_body p)) holds bodies in
    let inner : total is_attribute bodies ≡ total is_attribute (virtual_start ∷ pairs ++ (virtual_end ∷ [])) + 0 = total_append is_attribute (virtual_start ∷ pairs ++ (virtual_end ∷ [])) (close_body ∷ []) in
    let outer : total is_attribute (pairs ++ (virtual_end ∷ [])) ≡ total is_attribute pairs + 0 = total_append is_attribute pairs (virtual_end ∷ []) in
    (omega (arith, held, inner, outer, pairs_held l, pairs_length l, length-append pairs (virtual_end ∷ [])), tt)

attributes_counted : (t : Table) (m : ℕ) (e : Element) → All UnitCounted (attribute_units t m e)
unfolding attribute_units
attributes_counted t m e =
    all_gather UnitCounted (λ (c : AttributeGroup). gather (λ (r : Rule). unit_by e c r.action r.schema) (group_rules t m c)) (groups_of e)
    (every (λ (c : AttributeGroup). all_gather UnitCounted (λ (r : Rule). unit_by e c r.action r.schema) (group_rules t m c) (every (λ (r : Rule). unit_counted e c r.action r.schema) (group_rules t m c))) (groups_of e))

all_counted : (us : List (AttributeUnit Body)) → All UnitCounted us → total attribute_count us ≡ 4 * length us + 2 * total (λ u. held_in (unit_pieces u)) us
unfolding total
all_counted [] h = refl
all_counted (u ∷ us) h = omega (arith, h.0, all_counted us h.1)

counted_at : (t : Table) (s : List ℕ) (z : State (dispatch t)) (e : scene.Event) → All UnitCounted (attributes_at (dispatch t) z (told t s e))
counted_at t s z (scene.start e) =
    all_gather UnitCounted (λ (x : Entry). attribute_units t x.strand.mode (element_of t s e)) (entries_at (dispatch t) z.levels (element_of t s e))
    (every (λ (x : Entry). attributes_counted t x.strand.mode (element_of t s e)) (entries_at (dispatch t) z.levels (element_of t s e)))
counted_at t s z (scene.text w) = tt
counted_at t s z (scene.end part at) = tt

-- ---- the model's list and units
module _ (t : Table) (s : List ℕ) where
  module _ (k : ℕ) (lt : k < length (events s)) (d : scene.Event) where
    abbrev event : TreeEvent (dispatch t)
    event = told t s (get_or (events s) k d)

    units_pieces : map (λ u. map (λ p. p.piece) u.pieces) (attribute_units_at t s k) ≡ map unit_pieces (attributes_at (dispatch t) (stream_after t s k) event)
    units_pieces =
        let first = told_first t s k in
        let rest = map (told t s) (drop (suc k) (events s)) in
        let pieces : Assigned Body → List (List (Piece Body)) = λ x. map (λ u. map (λ p. p.piece) u.pieces) x.attributes in
        let split : told_all t s ≡ first ++ (event ∷ rest) = ap (map (told t s)) (split_at (events s) k d lt) ∙ map-append (told t s) (take k (events s)) (get_or (events s) k d ∷ drop (suc k) (events s)) in
        ap (λ (es : List (TreeEvent (dispatch t))). pieces (get_or (assigned_of (dispatch t) (tree_of (dispatch t) (completed (dispatch t) es))) k (assigned_at 0 [] []))) split
        ∙ ap (λ (i : ℕ). pieces (get_or (assigned_of (dispatch t) (tree_of (dispatch t) (completed (dispatch t) (first ++ (event ∷ rest))))) i (assigned_at 0 [] []))) (sym (told_first_length t s k (omega arith)))
        ∙ assigned_units (dispatch t) first rest event (subst (IsPrefix (dispatch t)) split (whole_prefix t s)) (assigned_at 0 [] []) (agree t)

    units_same : attribute_unit_count t s k ≡ length (attributes_at (dispatch t) (stream_after t s k) event)
    units_same =
        sym (length-map (attribute_units_at t s k) (λ (u : WholeUnit Body). map (λ p. p.piece) u.pieces))
        ∙ ap length units_pieces
        ∙ length-map (attributes_at (dispatch t) (stream_after t s k) event) unit_pieces

    attributes_same : unit_attribute_count t s k ≡ total (λ u. held_in (unit_pieces u)) (attributes_at (dispatch t) (stream_after t s k) event)
    attributes_same =
        total_same attributes_held (λ (u : WholeUnit Body). held_in (map (λ p. p.piece) u.pieces)) (λ (u : WholeUnit Body). sym (total_mapped (λ (p : Piece Body). is_attribute (piece_body p)) (λ (p : Marked Body). p.piece) u.pieces)) (attribute_units_at t s k)
        ∙ sym (total_mapped held_in (λ (u : WholeUnit Body). map (λ p. p.piece) u.pieces) (attribute_units_at t s k))
        ∙ ap (total held_in) units_pieces
        ∙ total_mapped held_in unit_pieces (attributes_at (dispatch t) (stream_after t s k) event)

    module _ (one : (m : ℕ) (e : Element) → OneKeeps (t.element_rules m e.space.class)) where
      count_next : model_count t s (suc k) ≡ model_count t s k + length (written (dispatch t) (stream_after t s k) event)
      unfolding model_count gather
      count_next =
          let first = told_first t s k in
          let records = written (dispatch t) (stream_after t s k) event in
          let more : told_first t s (suc k) ≡ first ++ (event ∷ []) = ap (map (told t s)) (take-suc (events s) k d lt) ∙ map-append (told t s) (take k (events s)) (get_or (events s) k d ∷ []) in
          let here = stream_of_completed (dispatch t) one (agree t) first (first_prefix t s k (omega arith)) in
          let there = stream_of_completed (dispatch t) one (agree t) (told_first t s (suc k)) (first_prefix t s (suc k) (omega arith)) in
          let cells : cut_model (dispatch t) (told_first t s (suc k)) ≡ cut_model (dispatch t) first ++ (records ∷ []) =
          sym there ∙ ap (stream_of (dispatch t)) more ∙ stream_step (dispatch t) first event ∙ ap (λ (l : List (List (Record Body ℕ))). l ++ (records ∷ [])) here in
          ap (λ (l : List (List (Record Body ℕ))). length (gather (λ x. x) l)) cells
          ∙ ap length (gather_append (λ (x : List (Record Body ℕ)). x) (cut_model (dispatch t) first) (records ∷ []))
          ∙ length-append (gather (λ x. x) (cut_model (dispatch t) first)) (records ++ [])
          ∙ ap (λ (l : List (Record Body ℕ)). length (gather (λ x. x) (cut_model (dispatch t) first)) + length l) (append-nil records)

      bound_next : model_count t s (suc k) ≤ model_count t s k + event_bound t s k
      bound_next =
          let few = written_few t s (stream_after t s k) (get_or (events s) k d) (event_few s d k lt) in
          let counted = all_counted (attributes_at (dispatch t) (stream_after t s k) event) (counted_at t s (stream_after t s k) (get_or (events s) k d)) in
          omega (arith, count_next, few, counted, strands_are t s k lt d, units_same, attributes_same)

-- ---- the bounds
none_before : (t : Table) (s : List ℕ) → model_count t s 0 ≡ 0
unfolding model_count gather
none_before t s = refl

module _ (table : List ℕ) (ok : Accepted table ≡ true) (s : List ℕ) where
  pub event_bound_lem : (k : ℕ) → k < length (events s) → model_count (decode table) s (suc k) ≤ model_count (decode table) s k + event_bound (decode table) s k
  event_bound_lem k lt = bound_next (decode table) s k lt (scene.text (span 0 0)) (one table ok)

  pub scene_bound_lem : (k : ℕ) → k ≤ length (events s) → model_count (decode table) s k ≤ scene_bound (decode table) s k
  unfolding sum_of
  scene_bound_lem zero le = omega (arith, none_before (decode table) s)
  scene_bound_lem (suc k) le = omega (arith, event_bound_lem k le, scene_bound_lem k (omega arith))

pub records_bound : (table s : List ℕ) → (forecast_of standard table s).records ≤ scene_bound (decode table) s (events_within (decode table) s)
unfolding forecast_of figures_of
records_bound table s = by (Accepted table) refl
  where
    Bounded : Forecast → Type 0
    Bounded f = f.records ≤ scene_bound (decode table) s (events_within (decode table) s)

    by : (b : Bool) → Accepted table ≡ b → Bounded (cond (not b) (no_figures (judged table).number (judged table).place) (cond (ltb longest (length s)) (no_figures 7 0) (figures_of (decode table) s)))
    by false e = omega arith
    by true e = holds_cond Bounded (ltb longest (length s)) (λ q. omega arith) (λ q. scene_bound_lem table e s (events_within (decode table) s) (within_all (decode table) s))
