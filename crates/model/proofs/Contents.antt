-- What the cells have under a unit's key, and the list under its number; the units of a cell's records.
use mathlib.Core.Path.{◌≡◌, refl, sym, ap, subst, ◌∙◌}
use mathlib.Core.Bool.{Bool, true, false, cond}
use mathlib.Core.List.{List, [], ◌∷◌, map, map-map}
use mathlib.Core.Logic.{inl, inr}
use mathlib.Core.Option.{Option, none, some}
use Prim.Native.Nat.{suc}
use lib.Dec.{eqb}
use lib.ListN.{length, length-map}
use Rattle.laws.specs.Lists.{tabulate}
use Rattle.laws.specs.Gather.{gather}
use Rattle.laws.proofs.Members.{all_by}
use Rattle.model.specs.Theory.{Record, Theory}
use Rattle.model.specs.Tree.{Tree, tree_events}
use Rattle.model.specs.Sections.{size}
use Rattle.model.specs.Model.{Key, Marked, WholeUnit, Assigned, of_event, records_at, units_opened, number_in, assigned, cells}
use Rattle.model.specs.Units.{of_unit, pieces_at, OpensOnce, UnitOf, unit_number}
use Rattle.model.proofs.Lists.{In, gather_same_on, gather_map, All, all_append, all_gather, Distinct, map_same_on, consecutive_tabulate}
use Rattle.model.proofs.Events.{at_event}
use Rattle.model.proofs.Order.{event_by_event}
use Rattle.model.proofs.Simulation.{renamed}
use Rattle.model.proofs.Filling.{cells_length}
use Rattle.model.proofs.Shown.{of_key, of_gather}
use Rattle.model.proofs.Numbers.{numbered}
use Rattle.model.proofs.Opens.{opened_once}
use Rattle.model.proofs.WholeUnits.{document_in_turn, Whole}

module _ (Θ : Theory) where
  -- The records of an event are pieces of the event's units.
  pub records_owned : (t : Tree Θ) (Q : Record Θ.Body Key → Type 0) → ((u : WholeUnit Θ.Body) → UnitOf Θ t u → (p : Marked Θ.Body) → In p u.pieces → Q (record { unit = u.key; piece = p.piece })) → (x : Assigned Θ.Body) → In x (assigned Θ t) → All Q (records_at x)
  records_owned t Q h x m = all_append Q (gather (of_event x.event) x.attributes) (gather (λ s. elim s.target [ none ↦ [] | some u ↦ of_event x.event u ]) x.strands)
      (all_gather Q (of_event x.event) x.attributes (all_by (λ u. All Q (of_event x.event u)) x.attributes (λ u a. of u (x, m, inl a))))
      (all_gather Q (λ s. elim s.target [ none ↦ [] | some u ↦ of_event x.event u ]) x.strands (all_by (λ s. All Q (elim s.target [ none ↦ [] | some u ↦ of_event x.event u ])) x.strands (λ s b. by s.target (λ u p. (x, m, inr (s, b, p))))))
    where
      one : (b : Bool) (r : Record Θ.Body Key) → Q r → All Q (cond b (r ∷ []) [])
      one true r q = (q, tt)
      one false r q = tt

      of : (u : WholeUnit Θ.Body) → UnitOf Θ t u → All Q (of_event x.event u)
      of u w = all_gather Q _ u.pieces (all_by (λ p. All Q (cond (eqb p.event x.event) (record { unit = u.key; piece = p.piece } ∷ []) [])) u.pieces (λ p k. one (eqb p.event x.event) (record { unit = u.key; piece = p.piece }) (h u w p k)))

      by : (o : Option (WholeUnit Θ.Body)) → ((u : WholeUnit Θ.Body) → o ≡ some u → UnitOf Θ t u) → All Q (elim o [ none ↦ [] | some u ↦ of_event x.event u ])
      by none g = tt
      by (some u) g = of u (g u refl)

  -- The pieces of a unit are what it has of each event of the document, one event after the other.
  unit_in_turn : (t : Tree Θ) (u : WholeUnit Θ.Body) → Whole Θ t u → gather (λ x. at_event x.event u.pieces) (assigned Θ t) ≡ map (λ p. p.piece) u.pieces
  unit_in_turn t u w = event_by_event (λ x. x.event) (assigned Θ t) 0 (suc (suc (size Θ t.inside))) (document_in_turn Θ t) u.pieces w.spans.rising w.spans.within

  -- The records of its key are its pieces.
  pub unit_keyed : (t : Tree Θ) (u : WholeUnit Θ.Body) → Whole Θ t u → of_key u.key (gather (λ x. x) (cells Θ t)) ≡ map (λ p. p.piece) u.pieces
  unfolding cells
  unit_keyed t u w =
      ap (of_key u.key) (gather_map (λ x. x) records_at (assigned Θ t))
      ∙ of_gather u.key records_at (assigned Θ t)
      ∙ gather_same_on (λ x. of_key u.key (records_at x)) (λ x. at_event x.event u.pieces) (assigned Θ t) w.shown
      ∙ unit_in_turn t u w

  -- The records of its number are those of its key.
  pub unit_numbered : (t : Tree Θ) (u : WholeUnit Θ.Body) → Whole Θ t u → (ps : List (Record Θ.Body Key)) → of_unit (eqb (unit_number Θ t u)) (map (renamed (number_in (units_opened (gather (λ x. x) (cells Θ t))))) ps) ≡ of_key u.key ps
  unit_numbered t u w = numbered (cells Θ t) u.key (subst OpensOnce (sym (unit_keyed t u w)) w.spans.opens_once)

  -- Event by event.
  pub unit_cells : (t : Tree Θ) (u : WholeUnit Θ.Body) → Whole Θ t u → map (of_key u.key) (cells Θ t) ≡ tabulate (pieces_at u) 0 (length (tree_events Θ t))
  unfolding cells
  unit_cells t u w =
      let xs : List (Assigned Θ.Body) = assigned Θ t in
      map-map (of_key u.key) records_at xs
      ∙ map_same_on (λ x. of_key u.key (records_at x)) (λ x. pieces_at u x.event) xs w.shown
      ∙ consecutive_tabulate (λ x. x.event) (pieces_at u) 0 (suc (suc (size Θ t.inside))) xs (document_in_turn Θ t)
      ∙ ap (tabulate (pieces_at u) 0) (sym (length-map xs records_at) ∙ cells_length Θ t)

  -- No key is opened twice.
  pub opens_distinct : (t : Tree Θ) → ((u : WholeUnit Θ.Body) → UnitOf Θ t u → Whole Θ t u) → Distinct (units_opened (gather (λ x. x) (cells Θ t)))
  unfolding cells
  opens_distinct t whole =
      let rs : List (Record Θ.Body Key) = gather (λ x. x) (cells Θ t) in
      let Once : Record Θ.Body Key → Type 0 = λ r. OpensOnce (of_key r.unit rs) in
      opened_once rs (subst (All Once) (sym (gather_map (λ x. x) records_at (assigned Θ t)))
      (all_gather Once records_at (assigned Θ t) (all_by (λ x. All Once (records_at x)) (assigned Θ t)
      (records_owned t Once (λ u h p k. subst OpensOnce (sym (unit_keyed t u (whole u h))) (whole u h).spans.opens_once)))))
