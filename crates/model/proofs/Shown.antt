-- What the list has of a unit at an event is what the unit has of it: of the event's strands at most one has the unit for its target.
use mathlib.Core.Path.{◌≡◌, refl, sym, ap, ap₂, subst, ◌∙◌}
use mathlib.Core.Bool.{cond}
use mathlib.Core.List.{List, [], ◌∷◌, ◌++◌, append-nil}
use mathlib.Core.Logic.{◌⊎◌, inl, inr}
use mathlib.Core.Option.{Option, none, some, some-injective}
use Prim.Native.Nat.{ℕ, suc, ◌≤◌, ◌<◌}
use Rattle.laws.specs.Gather.{gather}
use Rattle.laws.proofs.Gather.{gather_append}
use Rattle.model.specs.Theory.{Action, Attach, Unwrap, Validate, Rule, Piece, Record, Theory}
use Rattle.model.specs.Stream.{give}
use Rattle.model.specs.Sections.{Tags, Content}
use Rattle.model.specs.Model.{Key, attribute_unit, same_key, WholeUnit, attribute_units_from, attribute_pieces, unit_of, Strand, Assigned, assigned_at, along, enter, attributes_of, of_event, records_at}
use Rattle.model.specs.Units.{of_unit}
use Rattle.model.proofs.Lists.{gather_nothing_on, gather_gather, All, all_weaken, all_gather, every, OneAt, one_none, one_gathers}
use Rattle.model.proofs.Events.{at_event, of_event_lem}
use Rattle.model.proofs.Keys.{same_key_refl, other_key, event_of}

-- The pieces of one unit's records.
abbrev pub of_key : {B : Type 0} → Key → List (Record B Key) → List (Piece B)
of_key k = of_unit (same_key k)

module _ {B : Type 0} where
  of_own : (k : Key) (ps : List (Piece B)) → of_key k (give (some k) ps) ≡ ps
  unfolding gather
  of_own k [] = refl
  of_own k (p ∷ ps) = rw (same_key_refl k, of_own k ps)

  of_other : (k l : Key) → ¬ (k ≡ l) → (ps : List (Piece B)) → of_key k (give (some l) ps) ≡ []
  unfolding gather
  of_other k l n [] = refl
  of_other k l n (p ∷ ps) = rw (other_key k l n, of_other k l n ps)

  pub of_gather : {A : Type 0} (k : Key) (f : A → List (Record B Key)) (xs : List A) → of_key k (gather f xs) ≡ gather (λ x. of_key k (f x)) xs
  of_gather k f xs = gather_gather (λ (p : Record B Key). cond (same_key k p.unit) (p.piece ∷ []) []) f xs

  -- Of an event the list has what the unit has of it.
  abbrev pub Shown : WholeUnit B → Assigned B → Type 0
  Shown u x = of_key u.key (records_at x) ≡ at_event x.event u.pieces

  abbrev pub Other : WholeUnit B → WholeUnit B → Type 0
  Other u v = ¬ (u.key ≡ v.key)

  -- What holds of a strand's target, if it has one.
  abbrev pub ForTarget : (WholeUnit B → Type 0) → Strand B → Type 0
  ForTarget P s = (v : WholeUnit B) → s.target ≡ some v → P v

  -- A unit that has nothing of the events from i on and before n.
  abbrev pub Nothing : WholeUnit B → ℕ → ℕ → Type 0
  Nothing u i n = (k : ℕ) → i ≤ k → k < n → at_event k u.pieces ≡ []

  -- A unit that does not open at these events.
  abbrev pub Elsewhere : WholeUnit B → ℕ → ℕ → Type 0
  Elsewhere u i n = (k : ℕ) → i ≤ k → k < n → ¬ (event_of u.key ≡ k)

  module _ (u : WholeUnit B) (k : ℕ) where
    abbrev targets : Option (WholeUnit B) → List (Piece B)
    targets t = of_key u.key (elim t [ none ↦ [] | some v ↦ of_event k v ])

    own_event : of_key u.key (of_event k u) ≡ at_event k u.pieces
    own_event = ap (of_key u.key) (of_event_lem k u) ∙ of_own u.key (at_event k u.pieces)

    other_event : (v : WholeUnit B) → Other u v → of_key u.key (of_event k v) ≡ []
    other_event v n = ap (of_key u.key) (of_event_lem k v) ∙ of_other u.key v.key n (at_event k v.pieces)

    other_target : (t : Option (WholeUnit B)) → ((v : WholeUnit B) → t ≡ some v → Other u v) → targets t ≡ []
    unfolding gather
    other_target none h = refl
    other_target (some v) h = other_event v (h v refl)

    shared : (us : List (WholeUnit B)) (ss : List (Strand B)) → of_key u.key (records_at (assigned_at k us ss)) ≡ gather (λ v. of_key u.key (of_event k v)) us ++ gather (λ s. targets s.target) ss
    shared us ss =
        gather_append (λ (p : Record B Key). cond (same_key u.key p.unit) (p.piece ∷ []) []) (gather (of_event k) us) (gather (λ s. elim s.target [ none ↦ [] | some v ↦ of_event k v ]) ss)
        ∙ ap₂ (λ a b. a ++ b) (of_gather u.key (of_event k) us) (of_gather u.key (λ (s : Strand B). elim s.target [ none ↦ [] | some v ↦ of_event k v ]) ss)

    no_attribute : (us : List (WholeUnit B)) → All (Other u) us → gather (λ v. of_key u.key (of_event k v)) us ≡ []
    no_attribute us h = gather_nothing_on (λ v. of_key u.key (of_event k v)) us (all_weaken (Other u) (λ v. of_key u.key (of_event k v) ≡ []) other_event us h)

    no_strand : (ss : List (Strand B)) → All (ForTarget (Other u)) ss → gather (λ s. targets s.target) ss ≡ []
    no_strand ss h = gather_nothing_on (λ s. targets s.target) ss (all_weaken (ForTarget (Other u)) (λ s. targets s.target ≡ []) (λ s. other_target s.target) ss h)

    pub shown_by_strand : (us : List (WholeUnit B)) (ss : List (Strand B)) → All (Other u) us → OneAt (ForTarget (Other u)) (λ s. s.target ≡ some u) (at_event k u.pieces ≡ []) ss → Shown u (assigned_at k us ss)
    shown_by_strand us ss h o = shared us ss ∙ ap₂ (λ a b. a ++ b) (no_attribute us h)
        (one_gathers (ForTarget (Other u)) (λ s. s.target ≡ some u) (at_event k u.pieces ≡ []) (λ s. targets s.target) (at_event k u.pieces) (λ s. other_target s.target) (λ s p. ap targets p ∙ own_event) (λ z. z) ss o)

    pub shown_by_attribute : (us : List (WholeUnit B)) (ss : List (Strand B)) → OneAt (Other u) (λ v. u ≡ v) (at_event k u.pieces ≡ []) us → All (ForTarget (Other u)) ss → Shown u (assigned_at k us ss)
    shown_by_attribute us ss o h = shared us ss ∙ ap₂ (λ a b. a ++ b)
        (one_gathers (Other u) (λ v. u ≡ v) (at_event k u.pieces ≡ []) (λ v. of_key u.key (of_event k v)) (at_event k u.pieces) other_event (λ v p. ap (λ w. of_key u.key (of_event k w)) (sym p) ∙ own_event) (λ z. z) us o)
        (no_strand ss h)
        ∙ append-nil (at_event k u.pieces)

    pub shown_nowhere : (us : List (WholeUnit B)) (ss : List (Strand B)) → All (Other u) us → All (ForTarget (Other u)) ss → at_event k u.pieces ≡ [] → Shown u (assigned_at k us ss)
    shown_nowhere us ss h g z = shown_by_strand us ss h (one_none (ForTarget (Other u)) (λ s. s.target ≡ some u) (at_event k u.pieces ≡ []) ss g z)

  attributes_at_lem : (P : Key → Type 0) (i : ℕ) (cs : List ℕ) → ((j : ℕ) → P (attribute_unit i cs j)) → (j : ℕ) (xs : List (List (Piece B))) → All (λ v. P v.key) (attribute_units_from i cs j xs)
  attributes_at_lem P i cs h j [] = tt
  attributes_at_lem P i cs h j (x ∷ xs) = (h j, attributes_at_lem P i cs h (suc j) xs)

module _ (Θ : Theory) where
  -- The keys of an element's attribute units.
  pub attributes_keyed : (P : Key → Type 0) (e : Tags Θ) → ((cs : List ℕ) (j : ℕ) → P (attribute_unit e.start_at cs j)) → (ss : List (Strand Θ.Body)) → All (λ v. P v.key) (attributes_of Θ e ss)
  attributes_keyed P e h ss = all_gather (λ v. P v.key) (λ s. attribute_units_from e.start_at s.choices 0 (attribute_pieces Θ s.mode e.start e.sections)) ss
      (every (λ s. attributes_at_lem P e.start_at s.choices (h s.choices) 0 (attribute_pieces Θ s.mode e.start e.sections)) ss)

  -- The strands that a section's rules make: their target stays, or is a new unit.
  module _ (e : Tags Θ) (inner : Content Θ) where
    abbrev pub Made : (WholeUnit Θ.Body → Type 0) → Strand Θ.Body → Type 0
    Made Q s = ForTarget Q s ⊎ ((q : Rule) × (s.target ≡ some (unit_of Θ e inner s.choices q)) × (s.mode ≡ q.next))

    pub made_target : (Q R : WholeUnit Θ.Body → Type 0) → ((v : WholeUnit Θ.Body) → Q v → R v) → ((cs : List ℕ) (q : Rule) → R (unit_of Θ e inner cs q)) → (s : Strand Θ.Body) → Made Q s → ForTarget R s
    made_target Q R f g s (inl h) v p = f v (h v p)
    made_target Q R f g s (inr h) v p = subst R (some-injective (unit_of Θ e inner s.choices h.0) v (sym h.1 ∙ p)) (g s.choices h.0)

    abbrev pub made : Strand Θ.Body → ℕ → Action → Rule → Strand Θ.Body
    made s j a q = record { choices = j ∷ s.choices; mode = q.next; target = elim a [ Attach ↦ s.target | Unwrap ↦ s.target | Validate ↦ some (unit_of Θ e inner (j ∷ s.choices) q) ] }

    pub along_made : (Q : WholeUnit Θ.Body → Type 0) (s : Strand Θ.Body) → ForTarget Q s → (j : ℕ) (qs : List Rule) → All (Made Q) (along Θ e inner s j qs)
    along_made Q s h j [] = tt
    along_made Q s h j (q ∷ qs) = (go q.action, along_made Q s h (suc j) qs)
      where
        go : (a : Action) → Made Q (made s j a q)
        go Attach = inl h
        go Unwrap = inl h
        go Validate = inr (q, refl, refl)

    pub enter_made : (Q : WholeUnit Θ.Body → Type 0) (ss : List (Strand Θ.Body)) → All (ForTarget Q) ss → All (Made Q) (enter Θ e inner ss)
    enter_made Q ss h = all_gather (Made Q) (λ s. along Θ e inner s 0 (Θ.element_rules s.mode e.start)) ss
        (all_weaken (ForTarget Q) (λ s. All (Made Q) (along Θ e inner s 0 (Θ.element_rules s.mode e.start))) (λ s g. along_made Q s g 0 (Θ.element_rules s.mode e.start)) ss h)
