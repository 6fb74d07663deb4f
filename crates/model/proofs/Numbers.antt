-- A unit's number tells it from all others: what bears the number is what bears the key.
use mathlib.Core.Path.{◌≡◌, refl, sym, ap, ◌∙◌}
use mathlib.Core.Bool.{Bool, true, false, cond, true≢false}
use mathlib.Core.List.{List, [], ◌∷◌, ◌++◌, map}
use Prim.Native.Nat.{ℕ, suc, ◌<◌}
use native.Mathlib.Omega.{arith}
use lib.Dec.{eqb}
use lib.ListN.{length, length-map}
use borrow.Author.Tests.{eq-eqb, ne_eqb}
use Rattle.laws.specs.Lists.{tabulate}
use Rattle.laws.specs.Gather.{gather}
use Rattle.model.specs.Theory.{Piece, opens, holds, Record}
use Rattle.model.specs.Model.{Key, same_key, units_opened, number_in, list}
use Rattle.model.specs.Units.{OpensOnce, of_unit}
use Rattle.model.proofs.Lists.{map_gather, gather_map, Distinct}
use Rattle.model.proofs.Simulation.{Counts, renamed, opened_by}
use Rattle.model.proofs.Keys.{same_key_refl, same_key_eq, counts_places}
use Rattle.model.proofs.Shown.{of_key}

-- A number that is some open's belongs to one key.
number_own : (os : List Key) (k l : Key) → number_in os k < length os → number_in os k ≡ number_in os l → k ≡ l
number_own [] k l h e = absurd (omega arith)
number_own (o ∷ os) k l h e = go (same_key o k) (same_key o l) refl refl h e (number_own os k l)
  where
    go : (a b : Bool) → same_key o k ≡ a → same_key o l ≡ b → cond a 0 (suc (number_in os k)) < suc (length os) → cond a 0 (suc (number_in os k)) ≡ cond b 0 (suc (number_in os l)) → (number_in os k < length os → number_in os k ≡ number_in os l → k ≡ l) → k ≡ l
    go true true p q h e ih = sym (same_key_eq o k p) ∙ same_key_eq o l q
    go true false p q h e ih = absurd (omega arith)
    go false true p q h e ih = absurd (omega arith)
    go false false p q h e ih = ih (omega arith) (omega arith)

-- Keys that are counted.
counted : (ν : Key → ℕ) (u : ℕ) (ks : List Key) → Counts ν u ks → map ν ks ≡ tabulate (λ n. n) u (length ks)
unfolding tabulate
counted ν u [] c = refl
counted ν u (k ∷ ks) c = rw (c.0, counted ν (suc u) ks c.1)

module _ {B : Type 0} where
  number_in_lem : (k : Key) (ps : List (Record B Key)) → OpensOnce (of_key k ps) → number_in (units_opened ps) k < length (units_opened ps)
  unfolding gather
  number_in_lem k [] s = absurd s
  number_in_lem k (p ∷ ps) s = go p.unit p.piece (same_key k p.unit) refl s (number_in_lem k ps)
    where
      behind : (l : Key) → (OpensOnce (of_key k ps) → number_in (units_opened ps) k < length (units_opened ps)) → OpensOnce (of_key k ps) → cond (same_key l k) 0 (suc (number_in (units_opened ps) k)) < suc (length (units_opened ps))
      behind l ih s = at (same_key l k)
        where
          at : (b : Bool) → cond b 0 (suc (number_in (units_opened ps) k)) < suc (length (units_opened ps))
          at true = omega arith
          at false = omega (arith, ih s)

      go : (l : Key) (c : Piece B) (b : Bool) → same_key k l ≡ b → OpensOnce (cond b (c ∷ []) [] ++ of_key k ps) → (OpensOnce (of_key k ps) → number_in (units_opened ps) k < length (units_opened ps)) → number_in (opened_by l c ++ units_opened ps) k < length (opened_by l c ++ units_opened ps)
      go l (opens x) true e s ih = rw (← (same_key_eq k l e), same_key_refl k) (omega arith)
      go l (holds x) true e s ih = absurd s
      go l (opens x) false e s ih = behind l ih s
      go l (holds x) false e s ih = ih s

  of_number : (ν : Key → ℕ) (k : Key) → ((l : Key) → ν k ≡ ν l → k ≡ l) → (ps : List (Record B Key)) → of_unit (eqb (ν k)) (map (renamed ν) ps) ≡ of_key k ps
  unfolding gather
  of_number ν k h [] = refl
  of_number ν k h (p ∷ ps) = rw (of_number ν k h ps) (ap (λ b. cond b (p.piece ∷ []) [] ++ of_key k ps) (go (same_key k p.unit) refl))
    where
      go : (b : Bool) → same_key k p.unit ≡ b → eqb (ν k) (ν p.unit) ≡ same_key k p.unit
      go true e = eq-eqb (ν k) (ν p.unit) (ap ν (same_key_eq k p.unit e)) ∙ sym e
      go false e = ne_eqb (ν k) (ν p.unit) (λ x. true≢false (sym (same_key_refl k) ∙ ap (λ l. same_key k l) (h p.unit x) ∙ e)) ∙ sym e

  pub joined_list : (rs : List (List (Record B Key))) → gather (λ x. x) (list rs) ≡ map (renamed (number_in (units_opened (gather (λ x. x) rs)))) (gather (λ x. x) rs)
  joined_list rs =
      let ν : Key → ℕ = number_in (units_opened (gather (λ x. x) rs)) in
      gather_map (λ x. x) (map (renamed ν)) rs ∙ sym (map_gather (renamed ν) (λ x. x) rs)

  -- The records with a unit's number are those with its key.
  pub numbered : (rs : List (List (Record B Key))) (k : Key) → OpensOnce (of_key k (gather (λ x. x) rs)) → (ps : List (Record B Key)) → of_unit (eqb (number_in (units_opened (gather (λ x. x) rs)) k)) (map (renamed (number_in (units_opened (gather (λ x. x) rs)))) ps) ≡ of_key k ps
  numbered rs k b =
      let all : List (Record B Key) = gather (λ x. x) rs in
      of_number (number_in (units_opened all)) k (λ l x. number_own (units_opened all) k l (number_in_lem k all b) x)

  -- The opens of a list in which no unit opens twice bear 0, 1, 2, ..
  opened_renamed : (ν : Key → ℕ) (ps : List (Record B Key)) → units_opened (map (renamed ν) ps) ≡ map ν (units_opened ps)
  unfolding gather
  opened_renamed ν [] = refl
  opened_renamed ν (p ∷ ps) = go p.unit p.piece (opened_renamed ν ps)
    where
      go : (k : Key) (c : Piece B) → units_opened (map (renamed ν) ps) ≡ map ν (units_opened ps) → elim c [ opens b ↦ ν k ∷ [] | holds b ↦ [] ] ++ units_opened (map (renamed ν) ps) ≡ map ν (opened_by k c ++ units_opened ps)
      go k (opens b) e = ap (λ ns. ν k ∷ ns) e
      go k (holds b) e = e

  pub opens_counted : (rs : List (List (Record B Key))) → Distinct (units_opened (gather (λ x. x) rs)) → units_opened (gather (λ x. x) (list rs)) ≡ tabulate (λ n. n) 0 (length (units_opened (gather (λ x. x) (list rs))))
  opens_counted rs d =
      let ks : List Key = units_opened (gather (λ x. x) rs) in
      let e : units_opened (gather (λ x. x) (list rs)) ≡ map (number_in ks) ks = ap units_opened (joined_list rs) ∙ opened_renamed (number_in ks) (gather (λ x. x) rs) in
      e ∙ counted (number_in ks) 0 ks (counts_places ks d) ∙ ap (tabulate (λ n. n) 0) (sym (ap length e ∙ length-map ks (number_in ks)))
