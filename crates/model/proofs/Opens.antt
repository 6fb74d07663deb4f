-- A unit has one open, its first piece. So no unit opens twice in the list.
use mathlib.Core.Path.{◌≡◌, refl, sym, ap, ◌∙◌}
use mathlib.Core.Bool.{Bool, true, false, cond, true≢false}
use mathlib.Core.List.{List, [], ◌∷◌, ◌++◌, map}
use Prim.Native.Nat.{ℕ}
use Rattle.laws.specs.Gather.{gather}
use Rattle.model.specs.Theory.{Action, Attach, Unwrap, Validate, Rule, Piece, opens, holds, Record, Theory}
use Rattle.model.specs.Sections.{Tags, Content, empty, own_text, own_element, slot}
use Rattle.model.specs.Model.{Key, same_key, Marked, marked, kept_bodies, start_of, text_of, end_of, filling, unit_of, units_opened}
use Rattle.model.specs.Units.{IsHeld, OpensOnce}
use Rattle.model.proofs.Lists.{All, all_append, all_weaken, all_gather, all_map, every, Distinct}
use Rattle.model.proofs.Simulation.{opened_by}
use Rattle.model.proofs.Keys.{same_key_refl}
use Rattle.model.proofs.Slots.{slot_filled}
use Rattle.model.proofs.Shown.{of_key}

module _ {B : Type 0} where
  pub held_bodies : (bs : List B) → All IsHeld (map holds bs)
  held_bodies [] = tt
  held_bodies (b ∷ bs) = (tt, held_bodies bs)

  pub marked_pieces : (i : ℕ) (ps : List (Piece B)) → map (λ p. p.piece) (marked i ps) ≡ ps
  marked_pieces i [] = refl
  marked_pieces i (p ∷ ps) = rw (marked_pieces i ps)

  abbrev HeldAt : Marked B → Type 0
  HeldAt p = IsHeld p.piece

  held_marked : (i : ℕ) (bs : List B) → All HeldAt (marked i (map holds bs))
  held_marked i [] = tt
  held_marked i (b ∷ bs) = (tt, held_marked i bs)

  held_cond : (own : Bool) (xs : List (Marked B)) → All HeldAt xs → All HeldAt (cond own xs [])
  held_cond true xs h = h
  held_cond false xs h = tt

module _ (Θ : Theory) where
  held_start : (e : Tags Θ) (m : ℕ) → All HeldAt (start_of Θ e m)
  held_start e m = held_marked e.start_at (Θ.start_body e.start ∷ gather (kept_bodies Θ m) e.attributes)

  -- A filling opens nothing.
  filling_held : (c : Content Θ) (own : Bool) (m : ℕ) → All HeldAt (filling Θ c own m)
  filling_held empty own m = tt
  filling_held (own_text i τ rest) own m = all_append HeldAt (cond own (text_of Θ i τ) []) (filling Θ rest own m) (held_cond own (text_of Θ i τ) (tt, tt)) (filling_held rest own m)
  filling_held (own_element e inner rest) own m =
      let starts : List (Marked Θ.Body) = cond own (start_of Θ e m) [] in
      let ends : List (Marked Θ.Body) = cond own (end_of Θ e) [] in
      all_append HeldAt ((starts ++ filling Θ inner own m) ++ ends) (filling Θ rest own m)
      (all_append HeldAt (starts ++ filling Θ inner own m) ends (all_append HeldAt starts (filling Θ inner own m) (held_cond own (start_of Θ e m) (held_start e m)) (filling_held inner own m)) (held_cond own (end_of Θ e) (tt, tt)))
      (filling_held rest own m)
  filling_held (slot e inner rest) own m =
      all_append HeldAt (gather (λ q. slot_filled Θ e inner q.action q.next) (Θ.element_rules m e.start)) (filling Θ rest own m)
      (all_gather HeldAt (λ q. slot_filled Θ e inner q.action q.next) (Θ.element_rules m e.start) (every (λ q. go q.next (filling_held inner true q.next) (filling_held inner false q.next) q.action) (Θ.element_rules m e.start)))
      (filling_held rest own m)
    where
      go : (next : ℕ) → All HeldAt (filling Θ inner true next) → All HeldAt (filling Θ inner false next) → (a : Action) → All HeldAt (slot_filled Θ e inner a next)
      go next h g Attach = all_append HeldAt (start_of Θ e next ++ filling Θ inner true next) (end_of Θ e) (all_append HeldAt (start_of Θ e next) (filling Θ inner true next) (held_start e next) h) (tt, tt)
      go next h g Unwrap = g
      go next h g Validate = tt

  pub new_opens : (e : Tags Θ) (inner : Content Θ) (cs : List ℕ) (q : Rule) → OpensOnce (map (λ p. p.piece) (unit_of Θ e inner cs q).pieces)
  new_opens e inner cs q =
      let f : List (Marked Θ.Body) = filling Θ inner true q.next in
      let starts : List (Marked Θ.Body) = start_of Θ e q.next in
      let closes : List (Marked Θ.Body) = marked e.end_at (holds Θ.close_body ∷ []) in
      all_map IsHeld (λ p. p.piece) (((starts ++ f) ++ end_of Θ e) ++ closes)
      (all_append HeldAt ((starts ++ f) ++ end_of Θ e) closes (all_append HeldAt (starts ++ f) (end_of Θ e) (all_append HeldAt starts f (held_start e q.next) (filling_held inner true q.next)) (tt, tt)) (tt, tt))

-- At most one open.
abbrev AtMostOnce : {B : Type 0} → List (Piece B) → Type 0
AtMostOnce [] = Unit {0}
AtMostOnce (opens b ∷ ps) = All IsHeld ps
AtMostOnce (holds b ∷ ps) = AtMostOnce ps

module _ {B : Type 0} where
  once_at_most : (ps : List (Piece B)) → OpensOnce ps → AtMostOnce ps
  once_at_most [] o = absurd o
  once_at_most (opens b ∷ ps) o = o
  once_at_most (holds b ∷ ps) o = absurd o

  none_at_most : (ps : List (Piece B)) → All IsHeld ps → AtMostOnce ps
  none_at_most [] h = tt
  none_at_most (opens b ∷ ps) h = h.1
  none_at_most (holds b ∷ ps) h = none_at_most ps h.1

  at_most_rest : (b : Bool) (p : Piece B) (ps : List (Piece B)) → AtMostOnce (cond b (p ∷ []) [] ++ ps) → AtMostOnce ps
  at_most_rest false p ps h = h
  at_most_rest true (opens b) ps h = none_at_most ps h
  at_most_rest true (holds b) ps h = h

  never_opened : (k : Key) (rs : List (Record B Key)) → All IsHeld (of_key k rs) → All (λ l. ¬ (k ≡ l)) (units_opened rs)
  unfolding gather
  never_opened k [] h = tt
  never_opened k (r ∷ rs) h = go r.unit r.piece (same_key k r.unit) refl h (never_opened k rs)
    where
      go : (l : Key) (p : Piece B) (b : Bool) → same_key k l ≡ b → All IsHeld (cond b (p ∷ []) [] ++ of_key k rs) → (All IsHeld (of_key k rs) → All (λ l. ¬ (k ≡ l)) (units_opened rs)) → All (λ l. ¬ (k ≡ l)) (opened_by l p ++ units_opened rs)
      go l (opens x) true e h ih = absurd h.0
      go l (opens x) false e h ih = (λ q. true≢false (sym (same_key_refl k) ∙ ap (same_key k) q ∙ e), ih h)
      go l (holds x) true e h ih = ih h.1
      go l (holds x) false e h ih = ih h

  opened_distinct : (rs : List (Record B Key)) → All (λ r. AtMostOnce (of_key r.unit rs)) rs → Distinct (units_opened rs)
  unfolding gather
  opened_distinct [] h = tt
  opened_distinct (r ∷ rs) h = go r.unit r.piece h.0 (opened_distinct rs (all_weaken (λ q. AtMostOnce (of_key q.unit (r ∷ rs))) (λ q. AtMostOnce (of_key q.unit rs)) (λ q. at_most_rest (same_key q.unit r.unit) r.piece (of_key q.unit rs)) rs h.1))
    where
      go : (l : Key) (p : Piece B) → AtMostOnce (cond (same_key l l) (p ∷ []) [] ++ of_key l rs) → Distinct (units_opened rs) → Distinct (opened_by l p ++ units_opened rs)
      go l (opens x) o d =
          let held : All IsHeld (of_key l rs) = rw (same_key_refl l) at o in
          (never_opened l rs held, d)
      go l (holds x) o d = d

  -- Where the records of each one's key open once, no key is opened twice.
  pub opened_once : (rs : List (Record B Key)) → All (λ r. OpensOnce (of_key r.unit rs)) rs → Distinct (units_opened rs)
  opened_once rs h = opened_distinct rs (all_weaken (λ r. OpensOnce (of_key r.unit rs)) (λ r. AtMostOnce (of_key r.unit rs)) (λ r. once_at_most (of_key r.unit rs)) rs h)
