-- Every unit of a document is in the list whole: event by event the list has what the unit has.
use mathlib.Core.Path.{◌≡◌, refl, sym, ap, subst, ◌∙◌}
use mathlib.Core.Bool.{true, false≢true}
use mathlib.Core.List.{List, [], ◌∷◌, ◌++◌, map}
use mathlib.Core.Logic.{◌⊎◌, inl, inr}
use mathlib.Core.Option.{some, some-injective, none-ne-some}
use Prim.Native.Nat.{ℕ, suc, ◌≤◌, ◌<◌}
use native.Mathlib.Omega.{arith}
use Rattle.laws.proofs.Members.{all_at, all_by}
use Rattle.model.specs.Theory.{Rule, Piece, opens, holds, Theory}
use Rattle.model.specs.Tree.{Tree}
use Rattle.model.specs.Sections.{Tags, Content, empty, own_text, own_element, slot, tags_of, size, divide}
use Rattle.model.specs.Model.{Marked, WholeUnit, start_pieces, filling, unit_of, Strand, Assigned, assigned_at, before_root, enter, attributes_of, assign, assigned, OneKeeps}
use Rattle.model.specs.Units.{UnitOf}
use Rattle.model.proofs.Lists.{In, All, Distinct, all_append, all_weaken, OneAt, one_tagged, Consecutive, consecutive_append}
use Rattle.model.proofs.Events.{at_event, Within, at_before, at_behind, bracket_within, bracket_inside}
use Rattle.model.proofs.Order.{Rising, bracket_rising}
use Rattle.model.proofs.Divide.{Divided, divided, divided_up}
use Rattle.model.proofs.Slots.{filling_within, filling_rising, new_pieces}
use Rattle.model.proofs.Keys.{event_of, choices_of, of_attributes}
use Rattle.model.proofs.Shown.{Shown, Other, ForTarget, shown_by_strand, shown_by_attribute, shown_nowhere, attributes_keyed, Made, made_target, enter_made, Nothing}
use Rattle.model.proofs.Carried.{Holder, other_attributes, carried_shown, not_shown}
use Rattle.model.proofs.Opens.{new_opens}
use Rattle.model.proofs.Spans.{Spans, spans_widen, Old, Each, old_later, old_other, attribute_other, spans_before, spans_behind, choices_on, element_attributes_span, attributes_distinct, enter_differs}

module _ (Θ : Theory) where
  -- The events of a content, one after the other.
  in_turn : (c : Content Θ) (κ : Θ.Kept) (i n : ℕ) → Divided Θ κ i n c → (ss : List (Strand Θ.Body)) → Consecutive (λ x. x.event) i n (assign Θ c ss)
  in_turn empty κ i n d ss = d
  in_turn (own_text k τ rest) κ i n d ss = (sym d.0, subst (λ j. Consecutive (λ x. x.event) (suc j) n (assign Θ rest ss)) (sym d.0) (in_turn rest κ (suc k) n d.1 ss))
  in_turn (own_element e inner rest) κ i n d ss = (
    sym d.0,
    subst (λ j. Consecutive (λ x. x.event) (suc j) n (assign Θ inner ss ++ (assigned_at e.end_at [] ss ∷ assign Θ rest ss))) (sym d.0)
        (consecutive_append (λ x. x.event) (suc e.start_at) e.end_at n (assign Θ inner ss) (assigned_at e.end_at [] ss ∷ assign Θ rest ss) (in_turn inner (Θ.kept_of e.start) (suc e.start_at) e.end_at d.2 ss) (refl, in_turn rest κ (suc e.end_at) n d.3 ss)),
  )
  in_turn (slot e inner rest) κ i n d ss =
      let new : List (Strand Θ.Body) = enter Θ e inner ss in (
        sym d.0,
        subst (λ j. Consecutive (λ x. x.event) (suc j) n (assign Θ inner new ++ (assigned_at e.end_at [] new ∷ assign Θ rest ss))) (sym d.0)
            (consecutive_append (λ x. x.event) (suc e.start_at) e.end_at n (assign Θ inner new) (assigned_at e.end_at [] new ∷ assign Θ rest ss) (in_turn inner (Θ.kept_of e.start) (suc e.start_at) e.end_at d.2 new) (refl, in_turn rest κ (suc e.end_at) n d.3 ss)),
      )

  pub document_in_turn : (t : Tree Θ) → Consecutive (λ x. x.event) 0 (suc (suc (size Θ t.inside))) (assigned Θ t)
  document_in_turn t =
      let inner : Content Θ = divide Θ (Θ.kept_of t.root_start) 1 t.inside in
      let last : ℕ = suc (size Θ t.inside) in
      let new : List (Strand Θ.Body) = enter Θ (tags_of Θ 0 t.root_start last t.root_end) inner (before_root Θ ∷ []) in
      (refl, consecutive_append (λ x. x.event) 1 last (suc last) (assign Θ inner new) (assigned_at last [] new ∷ []) (in_turn inner (Θ.kept_of t.root_start) 1 last (divided Θ (Θ.kept_of t.root_start) 1 last t.inside (omega arith)) new) (refl, refl))

  -- A unit that opens in a content, and what the list has of it there.
  record Local (c : Content Θ) (i n : ℕ) (ss : List (Strand Θ.Body)) (u : WholeUnit Θ.Body) : Type 0 where
    spans : Spans i n u
    shown : All (Shown u) (assign Θ c ss)

  -- A unit of the document, and what the list has of it.
  pub record Whole (t : Tree Θ) (u : WholeUnit Θ.Body) : Type 0 where
    pub spans : Spans 0 (suc (suc (size Θ t.inside))) u
    pub shown : All (Shown u) (assigned Θ t)

  module _ (one : (m : ℕ) (σ : Θ.StartInfo) → OneKeeps (Θ.element_rules m σ)) where
    -- An element with the strands es, and what stands behind it with the strands ss.
    module _ (e : Tags Θ) (inner rest : Content Θ) (κ : Θ.Kept) (n : ℕ) (di : Divided Θ (Θ.kept_of e.start) (suc e.start_at) e.end_at inner) (dr : Divided Θ κ (suc e.end_at) n rest)
        (es ss : List (Strand Θ.Body)) (oe : All (ForTarget (Old (suc e.start_at))) es) (os : All (ForTarget (Old e.start_at)) ss) where
      abbrev element : List (Assigned Θ.Body)
      element = assigned_at e.start_at (attributes_of Θ e es) es ∷ assign Θ inner es ++ (assigned_at e.end_at [] es ∷ assign Θ rest ss)

      -- A unit that opens in it or behind it.
      record InElement (u : WholeUnit Θ.Body) : Type 0 where
        spans : Spans e.start_at n u
        shown : All (Shown u) element

      l : e.start_at < e.end_at
      l = divided_up Θ inner (Θ.kept_of e.start) (suc e.start_at) e.end_at di

      up : e.end_at < n
      up = divided_up Θ rest κ (suc e.end_at) n dr

      joined : (u : WholeUnit Θ.Body) → Shown u (assigned_at e.start_at (attributes_of Θ e es) es) → All (Shown u) (assign Θ inner es) → Shown u (assigned_at e.end_at [] es) → All (Shown u) (assign Θ rest ss) → All (Shown u) element
      joined u a b c d = (a, all_append (Shown u) (assign Θ inner es) (assigned_at e.end_at [] es ∷ assign Θ rest ss) b (c, d))

      not_behind : (lo hi : ℕ) (u : WholeUnit Θ.Body) → Spans lo hi u → e.start_at ≤ lo → hi ≤ suc e.end_at → All (Shown u) (assign Θ rest ss)
      not_behind lo hi u s a b =
          let x = spans_behind lo hi u s (suc e.end_at) n b in
          not_shown Θ u one rest κ (suc e.end_at) n dr x.0 x.1 ss (old_other e.start_at u (omega (arith, s.from)) ss os)

      inner_unit : (u : WholeUnit Θ.Body) → Local inner (suc e.start_at) e.end_at es u → InElement u
      inner_unit u x =
          let s = x.spans in
          let others = old_other (suc e.start_at) u s.from es oe in
          record {
            spans = spans_widen (suc e.start_at) e.end_at e.start_at n (omega arith) (omega (arith, up)) u s;
            shown = joined u
                (shown_nowhere u e.start_at (attributes_of Θ e es) es (other_attributes Θ u e es (λ p. omega (arith, p, s.from))) others (at_before e.start_at (suc e.start_at) e.end_at u.pieces (omega arith) s.within))
                x.shown
                (shown_nowhere u e.end_at [] es tt others (at_behind e.end_at (suc e.start_at) e.end_at u.pieces (omega arith) s.within))
                (not_behind (suc e.start_at) e.end_at u s (omega arith) (omega arith));
          }

      later_unit : (u : WholeUnit Θ.Body) → Local rest (suc e.end_at) n ss u → InElement u
      later_unit u x =
          let s = x.spans in
          let others = old_other (suc e.start_at) u (omega (arith, l, s.from)) es oe in
          let none = spans_before (suc e.end_at) n u s (suc e.start_at) e.end_at (omega arith) in
          record {
            spans = spans_widen (suc e.end_at) n e.start_at n (omega (arith, l)) (omega arith) u s;
            shown = joined u
                (shown_nowhere u e.start_at (attributes_of Θ e es) es (other_attributes Θ u e es (λ p. omega (arith, p, l, s.from))) others (at_before e.start_at (suc e.end_at) n u.pieces (omega (arith, l)) s.within))
                (not_shown Θ u one inner (Θ.kept_of e.start) (suc e.start_at) e.end_at di none.0 none.1 es others)
                (shown_nowhere u e.end_at [] es tt others (at_before e.end_at (suc e.end_at) n u.pieces (omega arith) s.within))
                x.shown;
          }

      attribute_unit_lem : Distinct (map choices_on es) → (u : WholeUnit Θ.Body) → In u (attributes_of Θ e es) → InElement u
      attribute_unit_lem d u m =
          let us : List (WholeUnit Θ.Body) = attributes_of Θ e es in
          let s : Spans e.start_at (suc e.start_at) u = all_at (Spans e.start_at (suc e.start_at)) us (element_attributes_span Θ e es) u m in
          let kind : of_attributes u.key ≡ true = all_at (λ v. of_attributes v.key ≡ true) us (attributes_keyed Θ (λ k. of_attributes k ≡ true) e (λ cs j. refl) es) u m in
          let others = attribute_other (suc e.start_at) u kind es oe in
          let none = spans_behind e.start_at (suc e.start_at) u s (suc e.start_at) e.end_at (omega arith) in
          record {
            spans = spans_widen e.start_at (suc e.start_at) e.start_at n (omega arith) (omega (arith, l, up)) u s;
            shown = joined u
                (shown_by_attribute u e.start_at us es (one_tagged (λ (v : WholeUnit Θ.Body). v.key) (Other u) (λ v. u ≡ v) (at_event e.start_at u.pieces ≡ []) u us (attributes_distinct Θ e es d) m (λ v p x. x) (λ v p. p)) others)
                (not_shown Θ u one inner (Θ.kept_of e.start) (suc e.start_at) e.end_at di none.0 none.1 es others)
                (shown_nowhere u e.end_at [] es tt others (at_behind e.end_at e.start_at (suc e.start_at) u.pieces l s.within))
                (not_behind e.start_at (suc e.start_at) u s (omega arith) (omega (arith, l)));
          }

      element_units : Distinct (map choices_on es) → (P : WholeUnit Θ.Body → Type 0) → ((u : WholeUnit Θ.Body) → InElement u → P u) → All (ForTarget P) es
          → (((u : WholeUnit Θ.Body) → Local inner (suc e.start_at) e.end_at es u → P u) → All (Each P) (assign Θ inner es)) → (((u : WholeUnit Θ.Body) → Local rest (suc e.end_at) n ss u → P u) → All (Each P) (assign Θ rest ss))
          → All (Each P) element
      element_units d P lift h inside behind = (
        (all_by P (attributes_of Θ e es) (λ u m. lift u (attribute_unit_lem d u m)), h),
        all_append (Each P) (assign Θ inner es) (assigned_at e.end_at [] es ∷ assign Θ rest ss) (inside (λ u x. lift u (inner_unit u x))) ((tt, h), behind (λ u x. lift u (later_unit u x))),
      )

    -- The unit that a validate rule opens.
    new_spans : (e : Tags Θ) (inner : Content Θ) → Divided Θ (Θ.kept_of e.start) (suc e.start_at) e.end_at inner → (cs : List ℕ) (q : Rule) → Spans e.start_at (suc e.end_at) (unit_of Θ e inner cs q)
    new_spans e inner d cs q =
        let l = divided_up Θ inner (Θ.kept_of e.start) (suc e.start_at) e.end_at d in
        let starts : List (Piece Θ.Body) = opens (Θ.open_body q.schema e.start) ∷ start_pieces Θ q.next e.start e.attributes in
        let ends : List (Piece Θ.Body) = holds (Θ.end_body (Θ.kept_of e.start) e.end) ∷ holds Θ.close_body ∷ [] in
        let f : List (Marked Θ.Body) = filling Θ inner true q.next in
        let w : Within (suc e.start_at) e.end_at f = filling_within Θ inner (Θ.kept_of e.start) (suc e.start_at) e.end_at d true q.next in
        let r : Rising (suc e.start_at) f = filling_rising Θ one inner (Θ.kept_of e.start) (suc e.start_at) e.end_at d true q.next in
        record {
          from = omega arith;
          before = omega (arith, l);
          opens_once = new_opens Θ e inner cs q;
          within = subst (Within e.start_at (suc e.end_at)) (sym (new_pieces Θ e inner cs q)) (bracket_within true e.start_at e.end_at starts f ends l w);
          rising = subst (Rising e.start_at) (sym (new_pieces Θ e inner cs q)) (bracket_rising true e.start_at e.end_at starts f ends l w r);
        }

    new_has : (e : Tags Θ) (inner : Content Θ) → Divided Θ (Θ.kept_of e.start) (suc e.start_at) e.end_at inner → (cs : List ℕ) (q : Rule) (k : ℕ) → suc e.start_at ≤ k → k < e.end_at → at_event k (unit_of Θ e inner cs q).pieces ≡ at_event k (filling Θ inner true q.next)
    new_has e inner d cs q k a b = ap (at_event k) (new_pieces Θ e inner cs q)
        ∙ bracket_inside true e.start_at e.end_at (opens (Θ.open_body q.schema e.start) ∷ start_pieces Θ q.next e.start e.attributes) (filling Θ inner true q.next) (holds (Θ.end_body (Θ.kept_of e.start) e.end) ∷ holds Θ.close_body ∷ [])
        (divided_up Θ inner (Θ.kept_of e.start) (suc e.start_at) e.end_at d) (filling_within Θ inner (Θ.kept_of e.start) (suc e.start_at) e.end_at d true q.next) k a b

    -- A slot along the strands ss, and what stands behind it.
    module _ (e : Tags Θ) (inner rest : Content Θ) (κ : Θ.Kept) (n : ℕ) (di : Divided Θ (Θ.kept_of e.start) (suc e.start_at) e.end_at inner) (dr : Divided Θ κ (suc e.end_at) n rest)
        (ss : List (Strand Θ.Body)) (d : Distinct (map choices_on ss)) (os : All (ForTarget (Old e.start_at)) ss) where
      abbrev new : List (Strand Θ.Body)
      new = enter Θ e inner ss

      made_old : All (Made Θ e inner (Old e.start_at)) new
      made_old = enter_made Θ e inner (Old e.start_at) ss os

      pub on : All (ForTarget (Old (suc e.start_at))) new
      on = all_weaken (Made Θ e inner (Old e.start_at)) (ForTarget (Old (suc e.start_at))) (made_target Θ e inner (Old e.start_at) (Old (suc e.start_at)) (λ v h. (omega (arith, h.0), h.1)) (λ cs q. (omega arith, refl))) new made_old

      others_made : (cs : List ℕ) (q : Rule) (s : Strand Θ.Body) → Made Θ e inner (Old e.start_at) s → ¬ (cs ≡ s.choices) → ForTarget (Other (unit_of Θ e inner cs q)) s
      others_made cs q s (inl h) x v p y = omega (arith, (h v p).0, ap event_of y)
      others_made cs q s (inr h) x v p y = x (ap choices_of (y ∙ ap (λ (w : WholeUnit Θ.Body). w.key) (some-injective v (unit_of Θ e inner s.choices h.0) (sym p ∙ h.1))))

      new_unit : (s : Strand Θ.Body) → In s new → (q : Rule) → s.target ≡ some (unit_of Θ e inner s.choices q) → s.mode ≡ q.next → InElement e inner rest κ n di dr new ss on os (unit_of Θ e inner s.choices q)
      new_unit s m q t p =
          let u : WholeUnit Θ.Body = unit_of Θ e inner s.choices q in
          let sp : Spans e.start_at (suc e.end_at) u = new_spans e inner di s.choices q in
          let only : (H : Strand Θ.Body → Type 0) (Z : Type 0) → H s → OneAt (ForTarget (Other u)) H Z new
          = λ H Z h. one_tagged choices_on (ForTarget (Other u)) H Z s new (enter_differs Θ e inner ss d) m (λ y o x. others_made s.choices q y (all_at (Made Θ e inner (Old e.start_at)) new made_old y o) x) (λ y x. subst H x h) in
          let holder : Holder Θ u inner (suc e.start_at) e.end_at s
          = record { target = t; own = true; has = λ k a b. new_has e inner di s.choices q k a b ∙ ap (λ w. at_event k (filling Θ inner true w)) (sym p) } in
          let after = divided_up Θ rest κ (suc e.end_at) n dr in
          record {
            spans = spans_widen e.start_at (suc e.end_at) e.start_at n (omega arith) after u sp;
            shown = joined e inner rest κ n di dr new ss on os u
                (shown_by_strand u e.start_at (attributes_of Θ e new) new (attributes_keyed Θ (λ k. ¬ (u.key ≡ k)) e (λ cs j x. false≢true (ap of_attributes x)) new) (only (λ y. y.target ≡ some u) (at_event e.start_at u.pieces ≡ []) t))
                (carried_shown Θ u one inner (Θ.kept_of e.start) (suc e.start_at) e.end_at di (λ k a b x. omega arith) new (only (Holder Θ u inner (suc e.start_at) e.end_at) (Nothing u (suc e.start_at) e.end_at) holder))
                (shown_by_strand u e.end_at [] new tt (only (λ y. y.target ≡ some u) (at_event e.end_at u.pieces ≡ []) t))
                (not_behind e inner rest κ n di dr new ss on os e.start_at (suc e.end_at) u sp (omega arith) (omega arith));
          }

      -- Every unit of its events, given that those of the strands ss are.
      slot_units : (P : WholeUnit Θ.Body → Type 0) → All (ForTarget P) ss → ((u : WholeUnit Θ.Body) → InElement e inner rest κ n di dr new ss on os u → P u)
          → (All (ForTarget P) new → ((u : WholeUnit Θ.Body) → Local inner (suc e.start_at) e.end_at new u → P u) → All (Each P) (assign Θ inner new)) → (((u : WholeUnit Θ.Body) → Local rest (suc e.end_at) n ss u → P u) → All (Each P) (assign Θ rest ss))
          → All (Each P) (element e inner rest κ n di dr new ss on os)
      slot_units P h lift inside behind =
          let f : All (ForTarget P) new = all_by (ForTarget P) new (λ s m. targeted s m (all_at (Made Θ e inner P) new (enter_made Θ e inner P ss h) s m)) in
          element_units e inner rest κ n di dr new ss on os (enter_differs Θ e inner ss d) P lift f (inside f) behind
        where
          targeted : (s : Strand Θ.Body) → In s new → Made Θ e inner P s → ForTarget P s
          targeted s m (inl x) v p = x v p
          targeted s m (inr x) v p = subst P (some-injective (unit_of Θ e inner s.choices x.0) v (sym x.1 ∙ p)) (lift (unit_of Θ e inner s.choices x.0) (new_unit s m x.0 x.1 x.2))

    units : (c : Content Θ) (κ : Θ.Kept) (i n : ℕ) → Divided Θ κ i n c → (ss : List (Strand Θ.Body)) → Distinct (map choices_on ss) → All (ForTarget (Old i)) ss
        → (P : WholeUnit Θ.Body → Type 0) → All (ForTarget P) ss → ((u : WholeUnit Θ.Body) → Local c i n ss u → P u) → All (Each P) (assign Θ c ss)
    units empty κ i n d ss dist os P h lift = tt
    units (own_text k τ rest) κ i n d ss dist os P h lift =
        let l : i ≤ suc k = omega (arith, d.0) in (
          (tt, h),
          units rest κ (suc k) n d.1 ss dist (old_later i (suc k) l ss os) P h (λ u x. lift u (record {
            spans = spans_widen (suc k) n i n l (omega arith) u x.spans;
            shown = (shown_nowhere u k [] ss tt (old_other i u (omega (arith, l, x.spans.from)) ss os) (at_before k (suc k) n u.pieces (omega arith) x.spans.within), x.shown);
          })),
        )
    units (own_element e inner rest) κ i n d ss dist os P h lift =
        let l : i ≤ e.start_at = omega (arith, d.0) in
        let up = divided_up Θ inner (Θ.kept_of e.start) (suc e.start_at) e.end_at d.2 in
        let here : All (ForTarget (Old e.start_at)) ss = old_later i e.start_at l ss os in
        let inside : All (ForTarget (Old (suc e.start_at))) ss = old_later i (suc e.start_at) (omega arith) ss os in
        element_units e inner rest κ n d.2 d.3 ss ss inside here dist P
        (λ u x. lift u (record { spans = spans_widen e.start_at n i n l (omega arith) u x.spans; shown = x.shown })) h
        (units inner (Θ.kept_of e.start) (suc e.start_at) e.end_at d.2 ss dist inside P h)
        (units rest κ (suc e.end_at) n d.3 ss dist (old_later i (suc e.end_at) (omega (arith, up)) ss os) P h)
    units (slot e inner rest) κ i n d ss dist os P h lift =
        let l : i ≤ e.start_at = omega (arith, d.0) in
        let up = divided_up Θ inner (Θ.kept_of e.start) (suc e.start_at) e.end_at d.2 in
        let here : All (ForTarget (Old e.start_at)) ss = old_later i e.start_at l ss os in
        slot_units e inner rest κ n d.2 d.3 ss dist here P h
        (λ u x. lift u (record { spans = spans_widen e.start_at n i n l (omega arith) u x.spans; shown = x.shown }))
        (units inner (Θ.kept_of e.start) (suc e.start_at) e.end_at d.2 (enter Θ e inner ss) (enter_differs Θ e inner ss dist) (on e inner rest κ n d.2 d.3 ss dist here) P)
        (units rest κ (suc e.end_at) n d.3 ss dist (old_later i (suc e.end_at) (omega (arith, up)) ss os) P h)

    document_units : (t : Tree Θ) → All (Each (Whole t)) (assigned Θ t)
    document_units t =
        let σ : Θ.StartInfo = t.root_start in
        let inner : Content Θ = divide Θ (Θ.kept_of σ) 1 t.inside in
        let e : Tags Θ = tags_of Θ 0 σ (suc (size Θ t.inside)) t.root_end in
        let n : ℕ = suc e.end_at in
        let di : Divided Θ (Θ.kept_of σ) 1 e.end_at inner = divided Θ (Θ.kept_of σ) 1 e.end_at t.inside (omega arith) in
        let ss : List (Strand Θ.Body) = before_root Θ ∷ [] in
        let os : All (ForTarget (Old 0)) ss = (λ v p. absurd (none-ne-some v p), tt) in
        slot_units e inner empty (Θ.kept_of σ) n di refl ss (tt, tt) os (Whole t) (λ v p. absurd (none-ne-some v p), tt)
        (λ u x. record { spans = x.spans; shown = x.shown })
        (units inner (Θ.kept_of σ) 1 e.end_at di (enter Θ e inner ss) (enter_differs Θ e inner ss (tt, tt)) (on e inner empty (Θ.kept_of σ) n di refl ss (tt, tt) os) (Whole t))
        (λ f. tt)

    pub unit_whole : (t : Tree Θ) (u : WholeUnit Θ.Body) → UnitOf Θ t u → Whole t u
    unit_whole t u (x, m, k) = by k (all_at (Each (Whole t)) (assigned Θ t) (document_units t) x m)
      where
        by : In u x.attributes ⊎ ((s : Strand Θ.Body) × In s x.strands × (s.target ≡ some u)) → Each (Whole t) x → Whole t u
        by (inl a) h = all_at (Whole t) x.attributes h.0 u a
        by (inr b) h = all_at (ForTarget (Whole t)) x.strands h.1 b.0 b.1 u b.2
