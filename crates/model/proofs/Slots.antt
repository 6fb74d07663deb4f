-- What a filling has of an event: of a text, an own element or a slot, and of what stands behind it.
use mathlib.Core.Path.{◌≡◌, refl, sym, ap, subst, ◌∙◌}
use mathlib.Core.Bool.{Bool, true, false, cond}
use mathlib.Core.List.{List, [], ◌∷◌, ◌++◌, append_assoc, append-nil}
use Prim.Native.Nat.{ℕ, suc, ◌+◌, ◌≤◌, ◌<◌}
use native.Mathlib.Omega.{arith}
use Rattle.laws.specs.Gather.{gather, total}
use Rattle.model.specs.Theory.{Action, Attach, Unwrap, Validate, Rule, Piece, opens, holds, Theory}
use Rattle.model.specs.Sections.{Tags, Content, empty, own_text, own_element, slot}
use Rattle.model.specs.Model.{Marked, start_pieces, start_of, text_of, end_of, slot_filling, filling, unit_of, OneKeeps}
use Rattle.model.proofs.Lists.{All}
use Rattle.model.proofs.Events.{at_event, Within, within_widen, within_append, within_marked, within_cond, at_first, at_second, bracket, bracket_within}
use Rattle.model.proofs.Order.{Rising, rising_from, rising_append, rising_marked, rising_cond, bracket_rising}
use Rattle.model.proofs.Divide.{Divided, divided_up}

-- Of the rules, at most one keeps the target.
abbrev pub keeps : Action → ℕ
keeps a = elim a [ Attach ↦ 1 | Unwrap ↦ 1 | Validate ↦ 0 ]

pub none_keeps : (qs : List Rule) → total (λ q. keeps q.action) qs ≤ 0 → All (λ q. q.action ≡ Validate) qs
unfolding total
none_keeps [] h = tt
none_keeps (q ∷ qs) h = go q.action h (none_keeps qs)
  where
    go : (a : Action) → keeps a + total (λ p. keeps p.action) qs ≤ 0 → (total (λ p. keeps p.action) qs ≤ 0 → All (λ p. p.action ≡ Validate) qs) → (a ≡ Validate) × All (λ p. p.action ≡ Validate) qs
    go Attach h ih = absurd (omega arith)
    go Unwrap h ih = absurd (omega arith)
    go Validate h ih = (refl, ih (omega arith))

module _ (Θ : Theory) where
  -- What fills a slot by a rule.
  abbrev pub slot_filled : Tags Θ → Content Θ → Action → ℕ → List (Marked Θ.Body)
  slot_filled e inner = slot_filling Θ e (filling Θ inner)

  -- A filling is of its content's events.
  pub slot_within : (e : Tags Θ) (inner : Content Θ) → ((own : Bool) (m : ℕ) → Within (suc e.start_at) e.end_at (filling Θ inner own m)) → e.start_at < e.end_at
      → (qs : List Rule) → Within e.start_at (suc e.end_at) (gather (λ q. slot_filled e inner q.action q.next) qs)
  unfolding gather
  slot_within e inner w l [] = tt
  slot_within e inner w l (q ∷ qs) = within_append e.start_at (suc e.end_at) (slot_filled e inner q.action q.next) (gather (λ p. slot_filled e inner p.action p.next) qs) (go q.action) (slot_within e inner w l qs)
    where
      go : (a : Action) → Within e.start_at (suc e.end_at) (slot_filled e inner a q.next)
      go Attach = subst (Within e.start_at (suc e.end_at)) (sym (append_assoc (start_of Θ e q.next) (filling Θ inner true q.next) (end_of Θ e)))
          (bracket_within true e.start_at e.end_at (start_pieces Θ q.next e.start e.attributes) (filling Θ inner true q.next) (holds (Θ.end_body (Θ.kept_of e.start) e.end) ∷ []) l (w true q.next))
      go Unwrap = within_widen (suc e.start_at) e.end_at e.start_at (suc e.end_at) (omega arith) (omega arith) (filling Θ inner false q.next) (w false q.next)
      go Validate = tt

  -- An own element, round what stands in it.
  abbrev pub element_filling : Bool → Tags Θ → ℕ → List (Marked Θ.Body) → List (Marked Θ.Body)
  element_filling own e m fs = bracket own e.start_at (start_pieces Θ m e.start e.attributes) fs e.end_at (holds (Θ.end_body (Θ.kept_of e.start) e.end) ∷ [])

  pub own_filling : (own : Bool) (e : Tags Θ) (m : ℕ) (fs rest : List (Marked Θ.Body)) → cond own (start_of Θ e m) [] ++ fs ++ cond own (end_of Θ e) [] ++ rest ≡ element_filling own e m fs ++ rest
  own_filling own e m fs rest = simp append_assoc

  pub filling_within : (c : Content Θ) (κ : Θ.Kept) (i n : ℕ) → Divided Θ κ i n c → (own : Bool) (m : ℕ) → Within i n (filling Θ c own m)
  filling_within empty κ i n d own m = tt
  filling_within (own_text k τ rest) κ i n d own m =
      let up = divided_up Θ rest κ (suc k) n d.1 in
      within_append i n (cond own (text_of Θ k τ) []) (filling Θ rest own m)
      (within_cond i n own (text_of Θ k τ) (within_marked i n k (omega (arith, d.0)) (omega (arith, up)) (holds (Θ.text_body τ) ∷ [])))
      (within_widen (suc k) n i n (omega (arith, d.0)) (omega arith) (filling Θ rest own m) (filling_within rest κ (suc k) n d.1 own m))
  filling_within (own_element e inner rest) κ i n d own m =
      let l = divided_up Θ inner (Θ.kept_of e.start) (suc e.start_at) e.end_at d.2 in
      let up = divided_up Θ rest κ (suc e.end_at) n d.3 in
      let fs : List (Marked Θ.Body) = filling Θ inner own m in
      let w = filling_within inner (Θ.kept_of e.start) (suc e.start_at) e.end_at d.2 own m in
      subst (Within i n) (sym (own_filling own e m fs (filling Θ rest own m)))
      (within_append i n (element_filling own e m fs) (filling Θ rest own m)
      (within_widen e.start_at (suc e.end_at) i n (omega (arith, d.0)) up (element_filling own e m fs) (bracket_within own e.start_at e.end_at (start_pieces Θ m e.start e.attributes) fs (holds (Θ.end_body (Θ.kept_of e.start) e.end) ∷ []) l w))
      (within_widen (suc e.end_at) n i n (omega (arith, d.0, l)) (omega arith) (filling Θ rest own m) (filling_within rest κ (suc e.end_at) n d.3 own m)))
  filling_within (slot e inner rest) κ i n d own m =
      let l = divided_up Θ inner (Θ.kept_of e.start) (suc e.start_at) e.end_at d.2 in
      let up = divided_up Θ rest κ (suc e.end_at) n d.3 in
      let gs : List (Marked Θ.Body) = gather (λ q. slot_filled e inner q.action q.next) (Θ.element_rules m e.start) in
      within_append i n gs (filling Θ rest own m)
      (within_widen e.start_at (suc e.end_at) i n (omega (arith, d.0)) up gs (slot_within e inner (filling_within inner (Θ.kept_of e.start) (suc e.start_at) e.end_at d.2) l (Θ.element_rules m e.start)))
      (within_widen (suc e.end_at) n i n (omega (arith, d.0, l)) (omega arith) (filling Θ rest own m) (filling_within rest κ (suc e.end_at) n d.3 own m))

  validated_filling : (e : Tags Θ) (inner : Content Θ) (qs : List Rule) → All (λ q. q.action ≡ Validate) qs → gather (λ q. slot_filled e inner q.action q.next) qs ≡ []
  unfolding gather
  validated_filling e inner [] h = refl
  validated_filling e inner (q ∷ qs) h = rw h.0 (validated_filling e inner qs h.1)

  -- A rule that keeps the target fills the slot alone.
  pub kept_filling : (e : Tags Θ) (inner : Content Θ) (xs : List (Marked Θ.Body)) (qs : List Rule) → All (λ q. q.action ≡ Validate) qs → xs ++ gather (λ q. slot_filled e inner q.action q.next) qs ≡ xs
  kept_filling e inner xs qs v = ap (λ y. xs ++ y) (validated_filling e inner qs v) ∙ append-nil xs

  pub text_behind : (k : ℕ) (τ : Θ.TextInfo) (rest : Content Θ) (own : Bool) (m x : ℕ) → suc k ≤ x → at_event x (filling Θ (own_text k τ rest) own m) ≡ at_event x (filling Θ rest own m)
  text_behind k τ rest own m x l = at_second x k (suc k) (cond own (text_of Θ k τ) []) (filling Θ rest own m) l
      (within_cond k (suc k) own (text_of Θ k τ) (within_marked k (suc k) k (omega arith) (omega arith) (holds (Θ.text_body τ) ∷ [])))

  module _ (e : Tags Θ) (inner rest : Content Θ) (κ : Θ.Kept) (i n : ℕ) (own : Bool) (m : ℕ) where
    abbrev fs : List (Marked Θ.Body)
    fs = filling Θ inner own m

    abbrev later : List (Marked Θ.Body)
    later = filling Θ rest own m

    abbrev slots : List (Marked Θ.Body)
    slots = gather (λ q. slot_filled e inner q.action q.next) (Θ.element_rules m e.start)

    pub own_here : Divided Θ κ i n (own_element e inner rest) → (k : ℕ) → k ≤ e.end_at → at_event k (filling Θ (own_element e inner rest) own m) ≡ at_event k (element_filling own e m fs)
    own_here d k l = ap (at_event k) (own_filling own e m fs later) ∙ at_first k (suc e.end_at) n (element_filling own e m fs) later (omega arith) (filling_within rest κ (suc e.end_at) n d.3 own m)

    pub own_behind : Divided Θ κ i n (own_element e inner rest) → (k : ℕ) → suc e.end_at ≤ k → at_event k (filling Θ (own_element e inner rest) own m) ≡ at_event k later
    own_behind d k l = ap (at_event k) (own_filling own e m fs later) ∙ at_second k e.start_at (suc e.end_at) (element_filling own e m fs) later l
        (bracket_within own e.start_at e.end_at (start_pieces Θ m e.start e.attributes) fs (holds (Θ.end_body (Θ.kept_of e.start) e.end) ∷ [])
        (divided_up Θ inner (Θ.kept_of e.start) (suc e.start_at) e.end_at d.2) (filling_within inner (Θ.kept_of e.start) (suc e.start_at) e.end_at d.2 own m))

    pub slot_here : Divided Θ κ i n (slot e inner rest) → (k : ℕ) → k ≤ e.end_at → at_event k (filling Θ (slot e inner rest) own m) ≡ at_event k slots
    slot_here d k l = at_first k (suc e.end_at) n slots later (omega arith) (filling_within rest κ (suc e.end_at) n d.3 own m)

    pub slot_behind : Divided Θ κ i n (slot e inner rest) → (k : ℕ) → suc e.end_at ≤ k → at_event k (filling Θ (slot e inner rest) own m) ≡ at_event k later
    slot_behind d k l = at_second k e.start_at (suc e.end_at) slots later l
        (slot_within e inner (filling_within inner (Θ.kept_of e.start) (suc e.start_at) e.end_at d.2) (divided_up Θ inner (Θ.kept_of e.start) (suc e.start_at) e.end_at d.2) (Θ.element_rules m e.start))

  -- A new unit's pieces: the section round what stands in its root.
  pub new_pieces : (e : Tags Θ) (inner : Content Θ) (cs : List ℕ) (q : Rule)
      → (unit_of Θ e inner cs q).pieces ≡ bracket true e.start_at (opens (Θ.open_body q.schema e.start) ∷ start_pieces Θ q.next e.start e.attributes) (filling Θ inner true q.next) e.end_at (holds (Θ.end_body (Θ.kept_of e.start) e.end) ∷ holds Θ.close_body ∷ [])
  new_pieces e inner cs q = simp append_assoc

  -- Where at most one of the rules taken keeps the target, a filling is in the order of events.
  slot_rising : (e : Tags Θ) (inner : Content Θ) → e.start_at < e.end_at → ((own : Bool) (m : ℕ) → Within (suc e.start_at) e.end_at (filling Θ inner own m)) → ((own : Bool) (m : ℕ) → Rising (suc e.start_at) (filling Θ inner own m))
      → (qs : List Rule) → OneKeeps qs → Rising e.start_at (gather (λ q. slot_filled e inner q.action q.next) qs)
  unfolding gather total
  slot_rising e inner l w r [] one = tt
  slot_rising e inner l w r (q ∷ qs) one = go q.action one (slot_rising e inner l w r qs)
    where
      others : List (Marked Θ.Body)
      others = gather (λ p. slot_filled e inner p.action p.next) qs

      alone : (xs : List (Marked Θ.Body)) → All (λ p. p.action ≡ Validate) qs → Rising e.start_at xs → Rising e.start_at (xs ++ others)
      alone xs v = subst (Rising e.start_at) (sym (kept_filling e inner xs qs v))

      go : (a : Action) → keeps a + total (λ p. keeps p.action) qs ≤ 1 → (OneKeeps qs → Rising e.start_at others) → Rising e.start_at (slot_filled e inner a q.next ++ others)
      go Validate one ih = ih (omega arith)
      go Unwrap one ih = alone (filling Θ inner false q.next) (none_keeps qs (omega arith)) (rising_from (suc e.start_at) e.start_at (omega arith) (filling Θ inner false q.next) (r false q.next))
      go Attach one ih = alone (slot_filled e inner Attach q.next) (none_keeps qs (omega arith)) (subst (Rising e.start_at) (sym (append_assoc (start_of Θ e q.next) (filling Θ inner true q.next) (end_of Θ e)))
          (bracket_rising true e.start_at e.end_at (start_pieces Θ q.next e.start e.attributes) (filling Θ inner true q.next) (holds (Θ.end_body (Θ.kept_of e.start) e.end) ∷ []) l (w true q.next) (r true q.next)))

  module _ (one : (m : ℕ) (σ : Θ.StartInfo) → OneKeeps (Θ.element_rules m σ)) where
    pub filling_rising : (c : Content Θ) (κ : Θ.Kept) (i n : ℕ) → Divided Θ κ i n c → (own : Bool) (m : ℕ) → Rising i (filling Θ c own m)
    filling_rising empty κ i n d own m = tt
    filling_rising (own_text k τ rest) κ i n d own m = rising_from k i (omega (arith, d.0)) (filling Θ (own_text k τ rest) own m)
        (rising_append k (suc k) k (omega arith) (cond own (text_of Θ k τ) []) (filling Θ rest own m)
        (within_cond k (suc k) own (text_of Θ k τ) (within_marked k (suc k) k (omega arith) (omega arith) (holds (Θ.text_body τ) ∷ [])))
        (rising_cond k own (text_of Θ k τ) (rising_marked k (holds (Θ.text_body τ) ∷ []))) (filling_rising rest κ (suc k) n d.1 own m))
    filling_rising (own_element e inner rest) κ i n d own m =
        let l = divided_up Θ inner (Θ.kept_of e.start) (suc e.start_at) e.end_at d.2 in
        let fs : List (Marked Θ.Body) = filling Θ inner own m in
        let w = filling_within inner (Θ.kept_of e.start) (suc e.start_at) e.end_at d.2 own m in
        let starts : List (Piece Θ.Body) = start_pieces Θ m e.start e.attributes in
        let ends : List (Piece Θ.Body) = holds (Θ.end_body (Θ.kept_of e.start) e.end) ∷ [] in
        subst (Rising i) (sym (own_filling own e m fs (filling Θ rest own m))) (rising_from e.start_at i (omega (arith, d.0)) (element_filling own e m fs ++ filling Θ rest own m)
        (rising_append e.start_at (suc e.end_at) e.start_at (omega (arith, l)) (element_filling own e m fs) (filling Θ rest own m) (bracket_within own e.start_at e.end_at starts fs ends l w)
        (bracket_rising own e.start_at e.end_at starts fs ends l w (filling_rising inner (Θ.kept_of e.start) (suc e.start_at) e.end_at d.2 own m)) (filling_rising rest κ (suc e.end_at) n d.3 own m)))
    filling_rising (slot e inner rest) κ i n d own m =
        let l = divided_up Θ inner (Θ.kept_of e.start) (suc e.start_at) e.end_at d.2 in
        let w = filling_within inner (Θ.kept_of e.start) (suc e.start_at) e.end_at d.2 in
        let qs : List Rule = Θ.element_rules m e.start in
        let gs : List (Marked Θ.Body) = gather (λ q. slot_filled e inner q.action q.next) qs in
        rising_from e.start_at i (omega (arith, d.0)) (gs ++ filling Θ rest own m)
        (rising_append e.start_at (suc e.end_at) e.start_at (omega (arith, l)) gs (filling Θ rest own m) (slot_within e inner w l qs)
        (slot_rising e inner l w (filling_rising inner (Θ.kept_of e.start) (suc e.start_at) e.end_at d.2) qs (one m e.start)) (filling_rising rest κ (suc e.end_at) n d.3 own m))
