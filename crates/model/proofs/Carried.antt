-- A unit in a content at whose events it does not open: at most one strand at a time has it for its target, and where none has it, it has nothing.
use mathlib.Core.Path.{◌≡◌, refl, sym, ap, subst, ◌∙◌}
use mathlib.Core.Bool.{Bool, true, false}
use mathlib.Core.List.{List, [], ◌∷◌, ◌++◌, append_assoc}
use mathlib.Core.Logic.{◌⊎◌, inl, inr}
use mathlib.Core.Option.{some, some-injective}
use Prim.Native.Nat.{ℕ, suc, ◌+◌, ◌≤◌, ◌<◌}
use native.Mathlib.Omega.{arith}
use Rattle.laws.specs.Gather.{gather, total}
use Rattle.model.specs.Theory.{Action, Attach, Unwrap, Validate, Rule, holds, Theory}
use Rattle.model.specs.Sections.{Tags, Content, empty, own_text, own_element, slot}
use Rattle.model.specs.Model.{Marked, WholeUnit, start_pieces, start_of, end_of, filling, unit_of, Strand, assigned_at, along, enter, attributes_of, assign, OneKeeps}
use Rattle.model.proofs.Lists.{All, all_append, all_weaken, OneAt, one_none, one_weaken, one_gather}
use Rattle.model.proofs.Events.{at_event, bracket_inside}
use Rattle.model.proofs.Divide.{Divided, divided_up}
use Rattle.model.proofs.Slots.{keeps, none_keeps, slot_filled, filling_within, kept_filling, text_behind, own_here, own_behind, slot_here, slot_behind}
use Rattle.model.proofs.Keys.{event_of}
use Rattle.model.proofs.Shown.{Shown, Other, ForTarget, Nothing, Elsewhere, shown_by_strand, attributes_keyed, Made, made_target, made, along_made}

module _ (Θ : Theory) where
  -- A unit that opens elsewhere, in a content.
  module _ (u : WholeUnit Θ.Body) where
    abbrev NotFor : Strand Θ.Body → Type 0
    NotFor = ForTarget (Other u)

    -- It is the strand's target, and of the content's events it has the filling.
    pub record Holder (c : Content Θ) (i n : ℕ) (s : Strand Θ.Body) : Type 0 where
      pub target : s.target ≡ some u
      pub own : Bool
      pub has : (k : ℕ) → i ≤ k → k < n → at_event k u.pieces ≡ at_event k (filling Θ c own s.mode)

    -- At most one strand is a holder.
    abbrev pub Carried : Content Θ → ℕ → ℕ → List (Strand Θ.Body) → Type 0
    Carried c i n = OneAt NotFor (Holder c i n) (Nothing u i n)

    pub other_attributes : (e : Tags Θ) (ss : List (Strand Θ.Body)) → ¬ (event_of u.key ≡ e.start_at) → All (Other u) (attributes_of Θ e ss)
    other_attributes e ss n = attributes_keyed Θ (λ l. ¬ (u.key ≡ l)) e (λ cs j p. n (ap event_of p)) ss

    -- The strands of a slot's section.
    slot_carried : (e : Tags Θ) (inner : Content Θ) → Divided Θ (Θ.kept_of e.start) (suc e.start_at) e.end_at inner → ¬ (event_of u.key ≡ e.start_at) → (s : Strand Θ.Body) → s.target ≡ some u → (j : ℕ) (qs : List Rule) → OneKeeps qs
        → ((k : ℕ) → e.start_at ≤ k → k ≤ e.end_at → at_event k u.pieces ≡ at_event k (gather (λ q. slot_filled Θ e inner q.action q.next) qs))
        → OneAt NotFor (Holder inner (suc e.start_at) e.end_at) (Nothing u e.start_at (suc e.end_at)) (along Θ e inner s j qs)
    unfolding gather total
    slot_carried e inner d n s t j [] one h = λ k a b. h k a (omega arith)
    slot_carried e inner d n s t j (q ∷ qs) one h = go q.action one h (slot_carried e inner d n s t (suc j) qs)
      where
        others : List (Marked Θ.Body)
        others = gather (λ p. slot_filled Θ e inner p.action p.next) qs

        Has : List (Marked Θ.Body) → Type 0
        Has xs = (k : ℕ) → e.start_at ≤ k → k ≤ e.end_at → at_event k u.pieces ≡ at_event k xs

        alone : (xs : List (Marked Θ.Body)) → All (λ p. p.action ≡ Validate) qs → Has (xs ++ others) → Has xs
        alone xs v h = subst Has (kept_filling Θ e inner xs qs v) h

        new : (i : ℕ) (p : Rule) (a : Action) → a ≡ Validate → NotFor (made Θ e inner s i a p)
        new i p a z = subst (λ b. NotFor (made Θ e inner s i b p)) (sym z) (λ v x y. n (ap event_of (y ∙ ap (λ (w : WholeUnit Θ.Body). w.key) (sym (some-injective (unit_of Θ e inner (i ∷ s.choices) p) v x)))))

        validated : (i : ℕ) (ps : List Rule) → All (λ p. p.action ≡ Validate) ps → All NotFor (along Θ e inner s i ps)
        validated i [] v = tt
        validated i (p ∷ ps) v = (new i p p.action v.0, validated (suc i) ps v.1)

        Rest : Type 0
        Rest = OneAt NotFor (Holder inner (suc e.start_at) e.end_at) (Nothing u e.start_at (suc e.end_at)) (along Θ e inner s (suc j) qs)

        go : (a : Action) → keeps a + total (λ p. keeps p.action) qs ≤ 1 → Has (slot_filled Θ e inner a q.next ++ others) → (OneKeeps qs → Has others → Rest)
            → (NotFor (made Θ e inner s j a q) × Rest) ⊎ (Holder inner (suc e.start_at) e.end_at (made Θ e inner s j a q) × All NotFor (along Θ e inner s (suc j) qs))
        go Validate one h ih = inl (new j q Validate refl, ih (omega arith) h)
        go Unwrap one h ih =
            let v = none_keeps qs (omega arith) in
            inr (record { target = t; own = false; has = λ k a b. alone (filling Θ inner false q.next) v h k (omega arith) (omega arith) }, validated (suc j) qs v)
        go Attach one h ih =
            let v = none_keeps qs (omega arith) in
            let f : List (Marked Θ.Body) = filling Θ inner true q.next in
            inr (
              record {
                target = t;
                own = true;
                has = λ k a b. alone (slot_filled Θ e inner Attach q.next) v h k (omega arith) (omega arith)
                    ∙ ap (at_event k) (append_assoc (start_of Θ e q.next) f (end_of Θ e))
                    ∙ bracket_inside true e.start_at e.end_at (start_pieces Θ q.next e.start e.attributes) f (holds (Θ.end_body (Θ.kept_of e.start) e.end) ∷ [])
                    (divided_up Θ inner (Θ.kept_of e.start) (suc e.start_at) e.end_at d) (filling_within Θ inner (Θ.kept_of e.start) (suc e.start_at) e.end_at d true q.next) k a b;
              },
              validated (suc j) qs v,
            )

    module _ (one : (m : ℕ) (σ : Θ.StartInfo) → OneKeeps (Θ.element_rules m σ)) where
      enter_carried : (e : Tags Θ) (inner rest : Content Θ) (κ : Θ.Kept) (i n : ℕ) → Divided Θ κ i n (slot e inner rest) → Elsewhere u i n → (ss : List (Strand Θ.Body)) → Carried (slot e inner rest) i n ss
          → OneAt NotFor (Holder inner (suc e.start_at) e.end_at) (Nothing u e.start_at (suc e.end_at)) (enter Θ e inner ss)
      enter_carried e inner rest κ i n d away ss o =
          let l = divided_up Θ inner (Θ.kept_of e.start) (suc e.start_at) e.end_at d.2 in
          let up = divided_up Θ rest κ (suc e.end_at) n d.3 in
          let apart : ¬ (event_of u.key ≡ e.start_at) = away e.start_at (omega (arith, d.0)) (omega (arith, l, up)) in
          one_gather NotFor (Holder (slot e inner rest) i n) (Nothing u i n) NotFor (Holder inner (suc e.start_at) e.end_at) (Nothing u e.start_at (suc e.end_at)) (λ s. along Θ e inner s 0 (Θ.element_rules s.mode e.start))
          (λ s h. all_weaken (Made Θ e inner (Other u)) NotFor (made_target Θ e inner (Other u) (Other u) (λ v x. x) (λ cs q p. apart (ap event_of p))) (along Θ e inner s 0 (Θ.element_rules s.mode e.start)) (along_made Θ e inner (Other u) s h 0 (Θ.element_rules s.mode e.start)))
          (λ s h. slot_carried e inner d.2 apart s h.target 0 (Θ.element_rules s.mode e.start) (one s.mode e.start)
          (λ k a b. h.has k (omega (arith, d.0)) (omega (arith, up)) ∙ slot_here Θ e inner rest κ i n h.own s.mode d k b))
          (λ z k a b. z k (omega (arith, d.0)) (omega (arith, up))) ss o

      -- An event of the content at which the unit does not open.
      held_at : (c : Content Θ) (i n j m k : ℕ) (us : List (WholeUnit Θ.Body)) (ss : List (Strand Θ.Body)) → OneAt NotFor (Holder c i n) (Nothing u j m) ss → j ≤ k → k < m → All (Other u) us → Shown u (assigned_at k us ss)
      held_at c i n j m k us ss o a b h = shown_by_strand u k us ss h (one_weaken NotFor (Holder c i n) (λ s. s.target ≡ some u) (Nothing u j m) (at_event k u.pieces ≡ []) (λ s x. x.target) (λ z. z k a b) ss o)

      pub carried_shown : (c : Content Θ) (κ : Θ.Kept) (i n : ℕ) → Divided Θ κ i n c → Elsewhere u i n → (ss : List (Strand Θ.Body)) → Carried c i n ss → All (Shown u) (assign Θ c ss)
      carried_shown empty κ i n d away ss o = tt
      carried_shown (own_text k τ rest) κ i n d away ss o =
          let up = divided_up Θ rest κ (suc k) n d.1 in (
            held_at (own_text k τ rest) i n i n k [] ss o (omega (arith, d.0)) (omega (arith, up)) tt,
            carried_shown rest κ (suc k) n d.1 (λ x a b. away x (omega (arith, d.0)) b) ss
                (one_weaken NotFor (Holder (own_text k τ rest) i n) (Holder rest (suc k) n) (Nothing u i n) (Nothing u (suc k) n)
                (λ s h. record { target = h.target; own = h.own; has = λ x a b. h.has x (omega (arith, d.0)) b ∙ text_behind Θ k τ rest h.own s.mode x a })
                (λ z x a b. z x (omega (arith, d.0)) b) ss o),
          )
      carried_shown (own_element e inner rest) κ i n d away ss o =
          let l = divided_up Θ inner (Θ.kept_of e.start) (suc e.start_at) e.end_at d.2 in
          let up = divided_up Θ rest κ (suc e.end_at) n d.3 in
          let c : Content Θ = own_element e inner rest in (
            held_at c i n i n e.start_at (attributes_of Θ e ss) ss o (omega (arith, d.0)) (omega (arith, l, up)) (other_attributes e ss (away e.start_at (omega (arith, d.0)) (omega (arith, l, up)))),
            all_append (Shown u) (assign Θ inner ss) (assigned_at e.end_at [] ss ∷ assign Θ rest ss)
                (carried_shown inner (Θ.kept_of e.start) (suc e.start_at) e.end_at d.2 (λ x a b. away x (omega (arith, d.0)) (omega (arith, up))) ss
                (one_weaken NotFor (Holder c i n) (Holder inner (suc e.start_at) e.end_at) (Nothing u i n) (Nothing u (suc e.start_at) e.end_at)
                (λ s h. record {
                  target = h.target;
                  own = h.own;
                  has = λ x a b. h.has x (omega (arith, d.0)) (omega (arith, up)) ∙ own_here Θ e inner rest κ i n h.own s.mode d x (omega arith)
                      ∙ bracket_inside h.own e.start_at e.end_at (start_pieces Θ s.mode e.start e.attributes) (filling Θ inner h.own s.mode) (holds (Θ.end_body (Θ.kept_of e.start) e.end) ∷ []) l
                      (filling_within Θ inner (Θ.kept_of e.start) (suc e.start_at) e.end_at d.2 h.own s.mode) x a b;
                })
                (λ z x a b. z x (omega (arith, d.0)) (omega (arith, up))) ss o)) (
                  held_at c i n i n e.end_at [] ss o (omega (arith, d.0, l)) (omega (arith, up)) tt,
                  carried_shown rest κ (suc e.end_at) n d.3 (λ x a b. away x (omega (arith, d.0, l)) b) ss
                      (one_weaken NotFor (Holder c i n) (Holder rest (suc e.end_at) n) (Nothing u i n) (Nothing u (suc e.end_at) n)
                      (λ s h. record { target = h.target; own = h.own; has = λ x a b. h.has x (omega (arith, d.0, l)) b ∙ own_behind Θ e inner rest κ i n h.own s.mode d x a })
                      (λ z x a b. z x (omega (arith, d.0, l)) b) ss o),
                ),
          )
      carried_shown (slot e inner rest) κ i n d away ss o =
          let l = divided_up Θ inner (Θ.kept_of e.start) (suc e.start_at) e.end_at d.2 in
          let up = divided_up Θ rest κ (suc e.end_at) n d.3 in
          let new : List (Strand Θ.Body) = enter Θ e inner ss in
          let p : OneAt NotFor (Holder inner (suc e.start_at) e.end_at) (Nothing u e.start_at (suc e.end_at)) new = enter_carried e inner rest κ i n d away ss o in (
            held_at inner (suc e.start_at) e.end_at e.start_at (suc e.end_at) e.start_at (attributes_of Θ e new) new p (omega arith) (omega (arith, l)) (other_attributes e new (away e.start_at (omega (arith, d.0)) (omega (arith, l, up)))),
            all_append (Shown u) (assign Θ inner new) (assigned_at e.end_at [] new ∷ assign Θ rest ss)
                (carried_shown inner (Θ.kept_of e.start) (suc e.start_at) e.end_at d.2 (λ x a b. away x (omega (arith, d.0)) (omega (arith, up))) new
                (one_weaken NotFor (Holder inner (suc e.start_at) e.end_at) (Holder inner (suc e.start_at) e.end_at) (Nothing u e.start_at (suc e.end_at)) (Nothing u (suc e.start_at) e.end_at) (λ s h. h) (λ z x a b. z x (omega arith) (omega arith)) new p)) (
                  held_at inner (suc e.start_at) e.end_at e.start_at (suc e.end_at) e.end_at [] new p (omega (arith, l)) (omega arith) tt,
                  carried_shown rest κ (suc e.end_at) n d.3 (λ x a b. away x (omega (arith, d.0, l)) b) ss
                      (one_weaken NotFor (Holder (slot e inner rest) i n) (Holder rest (suc e.end_at) n) (Nothing u i n) (Nothing u (suc e.end_at) n)
                      (λ s h. record { target = h.target; own = h.own; has = λ x a b. h.has x (omega (arith, d.0, l)) b ∙ slot_behind Θ e inner rest κ i n h.own s.mode d x a })
                      (λ z x a b. z x (omega (arith, d.0, l)) b) ss o),
                ),
          )

      -- Where it is no strand's target and has nothing, the list has nothing of it.
      pub not_shown : (c : Content Θ) (κ : Θ.Kept) (i n : ℕ) → Divided Θ κ i n c → Elsewhere u i n → Nothing u i n → (ss : List (Strand Θ.Body)) → All (ForTarget (Other u)) ss → All (Shown u) (assign Θ c ss)
      not_shown c κ i n d away z ss h = carried_shown c κ i n d away ss (one_none NotFor (Holder c i n) (Nothing u i n) ss h z)
