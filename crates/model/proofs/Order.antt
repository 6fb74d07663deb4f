-- Pieces in the order of their events.
use mathlib.Core.Path.{◌≡◌, refl, sym, ap, ap₂, ◌∙◌}
use mathlib.Core.Bool.{Bool, true, false, cond}
use mathlib.Core.List.{List, [], ◌∷◌, ◌++◌, map}
use Prim.Native.Nat.{ℕ, suc, ◌≤◌, ◌<◌}
use native.Mathlib.Omega.{arith}
use lib.Dec.{eqb}
use borrow.Author.Tests.{eqb-true, eq-eqb, ne_eqb}
use Rattle.laws.specs.Gather.{gather}
use Rattle.laws.proofs.Flags.{differ}
use Rattle.model.specs.Theory.{Piece}
use Rattle.model.specs.Model.{Marked, marked}
use Rattle.model.proofs.Lists.{gather_same_on, gather_nothing, All, all_weaken, Consecutive, consecutive_from}
use Rattle.model.proofs.Events.{at_event, Within, within_widen, at_before, bracket, starts_within}

module _ {B : Type 0} where
  -- From lo on.
  abbrev pub Rising : ℕ → List (Marked B) → Type 0
  Rising lo [] = Unit {0}
  Rising lo (p ∷ ps) = (lo ≤ p.event) × Rising p.event ps

  pub rising_from : (lo lo' : ℕ) → lo' ≤ lo → (ps : List (Marked B)) → Rising lo ps → Rising lo' ps
  rising_from lo lo' l [] r = tt
  rising_from lo lo' l (p ∷ ps) r = (omega (arith, r.0), r.1)

  pub rising_append : (lo hi l : ℕ) → lo ≤ hi → (xs ys : List (Marked B)) → Within l hi xs → Rising lo xs → Rising hi ys → Rising lo (xs ++ ys)
  rising_append lo hi l b [] ys w r q = rising_from hi lo b ys q
  rising_append lo hi l b (x ∷ xs) ys w r q = (r.0, rising_append x.event hi l (omega (arith, w.0.1)) xs ys w.1 r.1 q)

  pub rising_marked : (i : ℕ) (ps : List (Piece B)) → Rising i (marked i ps)
  rising_marked i [] = tt
  rising_marked i (p ∷ ps) = (omega arith, rising_marked i ps)

  pub rising_cond : (i : ℕ) (b : Bool) (xs : List (Marked B)) → Rising i xs → Rising i (cond b xs [])
  rising_cond i true xs r = r
  rising_cond i false xs r = tt

  rising_within : (lo l hi : ℕ) (ps : List (Marked B)) → Rising lo ps → Within l hi ps → Within lo hi ps
  rising_within lo l hi [] r w = tt
  rising_within lo l hi (p ∷ ps) r w = ((r.0, w.0.1), within_widen p.event hi lo hi r.0 (omega arith) ps (rising_within p.event l hi ps r.1 w.1))

  pub bracket_rising : (own : Bool) (i j : ℕ) (ps : List (Piece B)) (fs : List (Marked B)) (zs : List (Piece B)) → i < j → Within (suc i) j fs → Rising (suc i) fs → Rising i (bracket own i ps fs j zs)
  bracket_rising own i j ps fs zs l w r = rising_append i (suc i) i (omega arith) (cond own (marked i ps) []) (fs ++ cond own (marked j zs) []) (starts_within own i j ps fs zs l w) (rising_cond i own (marked i ps) (rising_marked i ps))
      (rising_append (suc i) j (suc i) l fs (cond own (marked j zs) []) w r (rising_cond j own (marked j zs) (rising_marked j zs)))

  -- Pieces in order are what they have of each event, one event after the other.
  pub event_by_event : {X : Type 0} (event : X → ℕ) (xs : List X) (lo hi : ℕ) → Consecutive event lo hi xs → (ps : List (Marked B)) → Rising lo ps → Within lo hi ps → gather (λ x. at_event (event x) ps) xs ≡ map (λ p. p.piece) ps
  unfolding gather
  event_by_event event [] lo hi c [] r w = refl
  event_by_event event [] lo hi c (p ∷ ps) r w = absurd (omega (arith, c, w.0.0, w.0.1))
  event_by_event event (x ∷ xs) lo hi c ps r w = go ps r w (event_by_event event xs (suc lo) hi c.1)
    where
      go : (ps : List (Marked B)) → Rising lo ps → Within lo hi ps → ((qs : List (Marked B)) → Rising (suc lo) qs → Within (suc lo) hi qs → gather (λ y. at_event (event y) qs) xs ≡ map (λ p. p.piece) qs)
          → at_event (event x) ps ++ gather (λ y. at_event (event y) ps) xs ≡ map (λ p. p.piece) ps
      go [] r w ih = gather_nothing (λ y. at_event (event y) []) (λ y. refl) xs
      go (p ∷ ps) r w ih = by (eqb p.event (event x)) refl (go ps (rising_from p.event lo r.0 ps r.1) w.1 ih)
        where
          later : All (λ y. suc lo ≤ event y) xs
          later = consecutive_from event (suc lo) hi xs c.1

          by : (b : Bool) → eqb p.event (event x) ≡ b → at_event (event x) ps ++ gather (λ y. at_event (event y) ps) xs ≡ map (λ q. q.piece) ps → (cond b (p.piece ∷ []) [] ++ at_event (event x) ps) ++ gather (λ y. at_event (event y) (p ∷ ps)) xs ≡ p.piece ∷ map (λ q. q.piece) ps
          by true e rest =
              let here : p.event ≡ event x = eqb-true p.event (event x) e in
              ap (λ ys. p.piece ∷ ys)
              (ap (λ ys. at_event (event x) ps ++ ys) (gather_same_on (λ y. at_event (event y) (p ∷ ps)) (λ y. at_event (event y) ps) xs
              (all_weaken (λ y. suc lo ≤ event y) (λ y. at_event (event y) (p ∷ ps) ≡ at_event (event y) ps) (λ y h. ap (λ b. cond b (p.piece ∷ []) [] ++ at_event (event y) ps) (ne_eqb p.event (event y) (λ q. omega (arith, h, q, here, c.0)))) xs later))
              ∙ rest)
          by false e rest =
              let apart : ¬ (p.event ≡ event x) = λ q. differ (sym (eq-eqb p.event (event x) q) ∙ e) in
              let above : suc lo ≤ p.event = omega (arith, r.0, c.0, apart) in
              let r' : Rising (suc lo) (p ∷ ps) = (above, r.1) in
              let w' : Within (suc lo) hi (p ∷ ps) = rising_within (suc lo) lo hi (p ∷ ps) r' w in
              ap₂ (λ a b. a ++ b) (at_before (event x) (suc lo) hi ps (omega (arith, c.0)) w'.1) (ih (p ∷ ps) r' w')
