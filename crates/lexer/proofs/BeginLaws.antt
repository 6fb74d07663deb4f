-- Where the next event begins: inside, and with more bytes.
--     begin_is                                     one look, and on behind a misc
--     begin_held                                   what holds where an event is ahead, and is kept by a misc before it
--     AheadInside, BeginInside, begin_inside       which places an answer names
--     CutBegin, ahead_stable, begin_stable         more bytes
--     begin_short                                  the bytes before the place where reading stops
use Rattle.std.specs.declared.ops.ControlFlow.TheVariants.{Break, Continue}
use Rattle.std.specs.Prelude.{Ok, Err}
use Prim.Native.Nat.{ℕ, zero, suc, ◌+◌, ◌≤◌, ◌<◌}
use mathlib.Core.Path.{◌≡◌, refl, subst, ◌∙◌}
use mathlib.Core.List.{List, ◌++◌}
use mathlib.Core.Bool.{Bool, true, false, cond, not, ◌||◌}
use mathlib.Core.Logic.{◌⊎◌, inl, inr, ⊎_elim}
use native.Mathlib.Omega.{arith}
use borrow.Author.Tests.{eqb-true, eqb-false}
use lib.ListN.{length, take, get_or}
use lib.Dec.{eqb}
use Rattle.laws.specs.Reading.{Stable, stable_same, stable_cond, stable_peek}
use Rattle.laws.proofs.Holds.{holds_cond, holds_peek}
use Rattle.laws.proofs.Kept.{Kept, kept_open}
use Rattle.lexer.specs.Stops.{stop_place}
use Rattle.lexer.specs.Names.{spaces_end}
use Rattle.lexer.specs.Misc.{misc_end}
use Rattle.lexer.specs.Begins.{stopped_ahead, misc_ahead, opens_misc, markup_at, either_at, ending, ahead_at, ahead_then, begin_by, begin_at}
use Rattle.lexer.specs.declared.Stop.{Stop}
use Rattle.lexer.specs.declared.Stop.TheVariants.{Bad, Long, Cut}
use Rattle.lexer.specs.Reads.{BeginRead, Ahead}
use Rattle.lexer.specs.declared.Begin.TheVariants as begin
use Rattle.lexer.proofs.Inside.{StopInside, stop_later, after_inside, SpacesTo, spaces_inside}
use Rattle.lexer.proofs.Stable.{kept_after, stable_after, spaces_stable, stops_short}
use Rattle.lexer.proofs.MiscLaws.{Onward, misc_inside, misc_stable}

-- inside: an element is open; closed: the root has closed
abbrev pub BeginInside : List ℕ → ℕ → Bool → Bool → BeginRead → Type 0
BeginInside s at inside closed (Ok (begin.Start i)) = (at ≤ i) × (i + 1 < length s) × (get_or s i 0 ≡ 0x3C) × (get_or s (i + 1) 0 ≡ 0x2F → ⊥) × ((inside || not closed) ≡ true)
BeginInside s at inside closed (Ok (begin.End i)) = (at ≤ i) × (i + 1 < length s) × (get_or s i 0 ≡ 0x3C) × (get_or s (i + 1) 0 ≡ 0x2F) × (inside ≡ true)
BeginInside s at inside closed (Ok (begin.Text i)) = (at ≤ i) × (i < length s) × (get_or s i 0 ≡ 0x3C → ⊥) × (inside ≡ true)
BeginInside s at inside closed (Ok begin.Finished) = (closed ≡ true) × (inside ≡ false)
BeginInside s at inside closed (Err x) = StopInside s at x

abbrev pub AheadInside : List ℕ → ℕ → Bool → Bool → Ahead → Type 0
AheadInside s at inside closed (Break b) = BeginInside s at inside closed b
AheadInside s at inside closed (Continue j) = (at < j) × (j ≤ length s)

pub misc_ahead_inside : (s : List ℕ) (inside closed : Bool) (from at : ℕ) → from ≤ at → AheadInside s from inside closed (misc_ahead s at)
unfolding misc_ahead
misc_ahead_inside s inside closed from at le =
    after_inside (AheadInside s from inside closed) stopped_ahead (Onward s at) s at (misc_end s at) _ (misc_inside s at) (stop_later s from at le) (λ (j : ℕ) h. omega arith)

pub markup_inside : (s : List ℕ) (inside closed : Bool) (from at : ℕ) → from ≤ at → get_or s at 0 ≡ 0x3C → AheadInside s from inside closed (markup_at s inside closed at)
unfolding markup_at
markup_inside s inside closed from at le e =
    holds_peek In s (at + 1) tt (λ hi.
    holds_cond In (eqb (get_or s (at + 1) 0) 0x2F)
    (λ q. holds_cond In inside (λ i. (le, hi, e, eqb-true (get_or s (at + 1) 0) 0x2F q, i)) (λ i. omega arith))
    (λ q.
    holds_cond In (opens_misc (get_or s (at + 1) 0)) (λ m. misc_ahead_inside s inside closed from at le)
    (λ m. holds_cond In (inside || not closed) (λ o. (le, hi, e, eqb-false (get_or s (at + 1) 0) 0x2F q, o)) (λ o. omega arith))))
  where
    In : Ahead → Type 0
    In = AheadInside s from inside closed

pub either_at_inside : (s : List ℕ) (inside closed : Bool) (from at : ℕ) → from ≤ at → AheadInside s from inside closed (either_at s inside closed at)
unfolding either_at
either_at_inside s inside closed from at le =
    holds_peek In s at tt (λ lt.
    holds_cond In (eqb (get_or s at 0) 0x3C) (λ q. markup_inside s inside closed from at le (eqb-true (get_or s at 0) 0x3C q))
    (λ q. holds_cond In inside (λ i. (le, lt, eqb-false (get_or s at 0) 0x3C q, i)) (λ i. omega arith)))
  where
    In : Ahead → Type 0
    In = AheadInside s from inside closed

pub ahead_inside : (s : List ℕ) (inside closed : Bool) (at : ℕ) → AheadInside s at inside closed (ahead_at s inside closed at)
unfolding ahead_at
ahead_inside s true closed at = either_at_inside s true closed at at (omega arith)
ahead_inside s false closed at =
    after_inside (AheadInside s at false closed) (ending closed) (SpacesTo s at) s at (spaces_end s at) _ (spaces_inside s at)
    (λ (x : Stop) h. holds_cond (AheadInside s at false closed) closed (λ c. (c, refl)) (λ c. h))
    (λ (i : ℕ) h. either_at_inside s false closed at i h.0)

-- ---- a misc ends behind its place: as many looks as bytes are enough
then_same : (s : List ℕ) (at : ℕ) (inside closed : Bool) (f g : ℕ → BeginRead) (a : Ahead) → AheadInside s at inside closed a → ((j : ℕ) → at < j → j ≤ length s → f j ≡ g j) → ahead_then f a ≡ ahead_then g a
then_same s at inside closed f g (Break b) h k = refl
then_same s at inside closed f g (Continue j) h k = k j h.0 h.1

enough : (s : List ℕ) (inside closed : Bool) (n m at : ℕ) → length s ≤ at + n → length s ≤ at + m → begin_by n s inside closed at ≡ begin_by m s inside closed at
unfolding begin_by
enough s inside closed zero zero at p q = refl
enough s inside closed zero (suc m) at p q = then_same s at inside closed _ _ (ahead_at s inside closed at) (ahead_inside s inside closed at) (λ j lo hi. absurd (omega arith))
enough s inside closed (suc n) zero at p q = then_same s at inside closed _ _ (ahead_at s inside closed at) (ahead_inside s inside closed at) (λ j lo hi. absurd (omega arith))
enough s inside closed (suc n) (suc m) at p q =
    then_same s at inside closed _ _ (ahead_at s inside closed at) (ahead_inside s inside closed at) (λ j lo hi. enough s inside closed n m j (omega arith) (omega arith))

-- one look, and on behind a misc
pub begin_is : (s : List ℕ) (at : ℕ) (inside closed : Bool) → begin_at s at inside closed ≡ ahead_then (λ (j : ℕ). begin_at s j inside closed) (ahead_at s inside closed at)
unfolding begin_at begin_by
begin_is s at inside closed = enough s inside closed (length s) (suc (length s)) at (omega arith) (omega arith)

-- P holds where an event is ahead, and before a misc where it holds behind it
pub begin_held : (s : List ℕ) (inside closed : Bool) (P : ℕ → BeginRead → Type 0)
    → ((at : ℕ) (b : BeginRead) → ahead_at s inside closed at ≡ Break b → P at b)
    → ((at j : ℕ) (b : BeginRead) → ahead_at s inside closed at ≡ Continue j → (at < j) × (j ≤ length s) → P j b → P at b)
    → (at : ℕ) → P at (begin_at s at inside closed)
begin_held s inside closed P event misc at = held (length s) at (omega arith)
  where
    look : ℕ → Ahead
    look = ahead_at s inside closed

    more : ℕ → BeginRead
    more j = begin_at s j inside closed

    next : (i : ℕ) (a : Ahead) → look i ≡ a → AheadInside s i inside closed a → ((j : ℕ) → i < j → j ≤ length s → P j (more j)) → P i (ahead_then more a)
    next i (Break b) e h k = event i b e
    next i (Continue j) e h k = misc i j (more j) e h (k j h.0 h.1)

    held : (left i : ℕ) → length s ≤ i + left → P i (more i)
    held zero i le = rw (begin_is s i inside closed) (next i (look i) refl (ahead_inside s inside closed i) (λ j lo hi. absurd (omega arith)))
    held (suc left) i le = rw (begin_is s i inside closed) (next i (look i) refl (ahead_inside s inside closed i) (λ j lo hi. held left j (omega arith)))

begin_later : (s : List ℕ) (at later : ℕ) (inside closed : Bool) → at ≤ later → (b : BeginRead) → BeginInside s later inside closed b → BeginInside s at inside closed b
begin_later s at later inside closed le (Ok (begin.Start i)) h = (omega arith, h.1, h.2, h.3, h.4)
begin_later s at later inside closed le (Ok (begin.End i)) h = (omega arith, h.1, h.2, h.3, h.4)
begin_later s at later inside closed le (Ok (begin.Text i)) h = (omega arith, h.1, h.2, h.3)
begin_later s at later inside closed le (Ok begin.Finished) h = h
begin_later s at later inside closed le (Err x) h = stop_later s at later le x h

pub begin_inside : (s : List ℕ) (at : ℕ) (inside closed : Bool) → BeginInside s at inside closed (begin_at s at inside closed)
begin_inside s at inside closed =
    begin_held s inside closed (λ (i : ℕ) (b : BeginRead). BeginInside s i inside closed b)
    (λ i b e. subst (AheadInside s i inside closed) e (ahead_inside s inside closed i))
    (λ i j b e h k. begin_later s i j inside closed (omega arith) b k)
    at

-- ---- more bytes
-- the answers that may change
abbrev pub CutAhead : Ahead → Type 0
CutAhead a = (a ≡ stopped_ahead Cut) ⊎ (a ≡ Break (Ok begin.Finished))

abbrev pub CutBegin : BeginRead → Type 0
CutBegin b = (b ≡ Err Cut) ⊎ (b ≡ (Ok begin.Finished))

cut_event : (b : BeginRead) → CutAhead (Break b) → CutBegin b
cut_event b = ⊎_elim (λ e. inl (cc)) (λ e. inr (cc))

cut_misc : (j : ℕ) → CutAhead (Continue j) → ⊥
cut_misc j = ⊎_elim (λ e. let z : ◌≡◌ {A = ℕ} 0 1 = cc in omega arith) (λ e. let z : ◌≡◌ {A = ℕ} 0 1 = cc in omega arith)

module _ (s t : List ℕ) where
  pub misc_ahead_stable : (at : ℕ) → Stable (stopped_ahead Cut) (misc_ahead s at) (misc_ahead (s ++ t) at)
  unfolding misc_ahead
  misc_ahead_stable at = stable_after stopped_ahead _ _ (λ (j : ℕ). stable_same (stopped_ahead Cut) (Continue j)) _ _ (misc_stable s t at)

  pub markup_stable : (inside closed : Bool) (at : ℕ) → Stable (stopped_ahead Cut) (markup_at s inside closed at) (markup_at (s ++ t) inside closed at)
  unfolding markup_at
  markup_stable inside closed at =
      stable_peek (stopped_ahead Cut) s t (at + 1) _ _ (λ (b : ℕ).
      stable_cond (stopped_ahead Cut) (eqb b 0x2F) (stable_same (stopped_ahead Cut) (cond inside (Break (Ok (begin.End at))) (stopped_ahead (Bad (at + 1)))))
      (stable_cond (stopped_ahead Cut) (opens_misc b) (misc_ahead_stable at)
      (stable_same (stopped_ahead Cut) (cond (inside || not closed) (Break (Ok (begin.Start at))) (stopped_ahead (Bad (at + 1)))))))

  pub either_at_stable : (inside closed : Bool) (at : ℕ) → Stable (stopped_ahead Cut) (either_at s inside closed at) (either_at (s ++ t) inside closed at)
  unfolding either_at
  either_at_stable inside closed at =
      stable_peek (stopped_ahead Cut) s t at _ _ (λ (b : ℕ).
      stable_cond (stopped_ahead Cut) (eqb b 0x3C) (markup_stable inside closed at)
      (stable_same (stopped_ahead Cut) (cond inside (Break (Ok (begin.Text at))) (stopped_ahead (Bad at)))))

  pub ahead_stable : (inside closed : Bool) (at : ℕ) → Kept CutAhead (ahead_at s inside closed at) (ahead_at (s ++ t) inside closed at)
  unfolding ahead_at
  ahead_stable true closed at = kept_open CutAhead (stopped_ahead Cut) (inl refl) _ _ (either_at_stable true closed at)
  ahead_stable false closed at =
      kept_after CutAhead (ending closed) (ends closed) _ _ (λ (i : ℕ). kept_open CutAhead (stopped_ahead Cut) (inl refl) _ _ (either_at_stable false closed i)) _ _ (spaces_stable s t at)
    where
      ends : (c : Bool) → CutAhead (ending c Cut)
      ends true = inr refl
      ends false = inl refl

  pub begin_stable : (at : ℕ) (inside closed : Bool) → Kept CutBegin (begin_at s at inside closed) (begin_at (s ++ t) at inside closed)
  begin_stable at inside closed = begin_held s inside closed (λ (i : ℕ) (b : BeginRead). Kept CutBegin b (more i)) event misc at
    where
      more : ℕ → BeginRead
      more j = begin_at (s ++ t) j inside closed

      -- what is ahead stays
      same : (i : ℕ) (a : Ahead) → ahead_at s inside closed i ≡ a → (CutAhead a → ⊥) → more i ≡ ahead_then more a
      same i a e n = rw (begin_is (s ++ t) i inside closed, ahead_stable inside closed i (rw e n), e)

      event : (i : ℕ) (b : BeginRead) → ahead_at s inside closed i ≡ Break b → Kept CutBegin b (more i)
      event i b e n = same i (Break b) e (λ c. n (cut_event b c))

      misc : (i j : ℕ) (b : BeginRead) → ahead_at s inside closed i ≡ Continue j → (i < j) × (j ≤ length s) → Kept CutBegin b (more j) → Kept CutBegin b (more i)
      misc i j b e h k n = same i (Continue j) e (cut_misc j) ∙ k n

begin_decided : (a : BeginRead) → CutBegin a ⊎ (CutBegin a → ⊥)
begin_decided (Ok (begin.Start i)) = inr (⊎_elim (λ e. let z : ◌≡◌ {A = ℕ} 0 1 = cc in omega arith) (λ e. let z : ◌≡◌ {A = ℕ} 0 1 = cc in omega arith))
begin_decided (Ok (begin.End i)) = inr (⊎_elim (λ e. let z : ◌≡◌ {A = ℕ} 0 1 = cc in omega arith) (λ e. let z : ◌≡◌ {A = ℕ} 0 1 = cc in omega arith))
begin_decided (Ok (begin.Text i)) = inr (⊎_elim (λ e. let z : ◌≡◌ {A = ℕ} 0 1 = cc in omega arith) (λ e. let z : ◌≡◌ {A = ℕ} 0 1 = cc in omega arith))
begin_decided (Ok begin.Finished) = inl (inr refl)
begin_decided (Err (Bad p)) = inr (⊎_elim (λ e. let z : ◌≡◌ {A = ℕ} 0 1 = cc in omega arith) (λ e. let z : ◌≡◌ {A = ℕ} 0 1 = cc in omega arith))
begin_decided (Err (Long p)) = inr (⊎_elim (λ e. let z : ◌≡◌ {A = ℕ} 0 1 = cc in omega arith) (λ e. let z : ◌≡◌ {A = ℕ} 0 1 = cc in omega arith))
begin_decided (Err Cut) = inl (inl refl)

pub begin_short : (s : List ℕ) (at : ℕ) (inside closed : Bool) (x : Stop) → begin_at s at inside closed ≡ Err x → (begin_at (take (stop_place s x) s) at inside closed ≡ Err Cut) ⊎ ((begin_at (take (stop_place s x) s) at inside closed ≡ (Ok begin.Finished)) × (closed ≡ true))
begin_short s at inside closed x h =
    ⊎_elim inl (λ e. inr (e, (subst (BeginInside (take (stop_place s x) s) at inside closed) e (begin_inside (take (stop_place s x) s) at inside closed)).0))
    (stops_short CutBegin begin_decided (λ (l : List ℕ). begin_at l at inside closed) (λ l m. begin_stable l m at inside closed) at (λ (r : BeginRead) (y : Stop). r ≡ Err y) (λ r e. inl e)
    (λ l y e. subst (BeginInside l at inside closed) e (begin_inside l at inside closed))
    s
    x
    h)
