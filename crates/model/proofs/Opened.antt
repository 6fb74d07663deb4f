-- The stream's count of units is the number of opens that it has written, so that of the model's list.
--     reached_units     by the stream
--     model_units       by the model's list of the tree closed behind these events, or behind more
use mathlib.Core.Path.{◌≡◌, refl, sym, ap, ◌∙◌}
use mathlib.Core.Bool.{Bool, true, false, cond}
use mathlib.Core.List.{List, [], ◌∷◌, ◌++◌, map, foldl, append_assoc}
use mathlib.Core.Option.{Option, none, some}
use Prim.Native.Nat.{ℕ, suc, ◌+◌}
use native.Mathlib.Omega.{arith}
use lib.ListN.{length, take, length-append}
use Rattle.laws.specs.Gather.{gather, total}
use Rattle.laws.proofs.Gather.{gather_append}
use Rattle.model.specs.Theory.{Action, Attach, Unwrap, Validate, Rule, AttributeUnit, opens, holds, Record, Theory}
use Rattle.model.specs.Tree.{TreeEvent, start, text, end, still_open, completed, tree_of}
use Rattle.model.specs.Stream.{Level, State, Entry, allot, new_units, take_rules, entries_at, units_of, entered, start_records, text_records, end_records, written, after, fresh, reached, stream_from, stream_of, HeldStrand, held_before_root, stay, by_rule, receiver, give, attributes_from, closing}
use Rattle.model.specs.Model.{units_opened, model_of, OneKeeps}
use Rattle.model.proofs.Lists.{gather_nothing, gather_gather, All, all_append}
use Rattle.model.proofs.Cut.{IsPrefix, added_ends, completed_prefix}
use Rattle.model.proofs.Filling.{Agree}
use Rattle.model.proofs.Theorems.{stream_within}

module _ {B U : Type 0} where
  -- How many units records open.
  abbrev opens_in : List (Record B U) → ℕ
  opens_in rs = length (units_opened rs)

  opens_append : (xs ys : List (Record B U)) → opens_in (xs ++ ys) ≡ opens_in xs + opens_in ys
  opens_append xs ys = ap length (gather_append (λ (p : Record B U). elim p.piece [ opens b ↦ p.unit ∷ [] | holds b ↦ [] ]) xs ys) ∙ length-append (units_opened xs) (units_opened ys)

  opens_held : (t : Option U) (bs : List B) → units_opened (give t (map holds bs)) ≡ []
  unfolding gather
  opens_held none bs = refl
  opens_held (some u) [] = refl
  opens_held (some u) (b ∷ bs) = opens_held (some u) bs

  opens_attributes : (ν : ℕ → U) (j : ℕ) (xs : List (AttributeUnit B)) → opens_in (attributes_from ν j xs) ≡ length xs
  unfolding gather
  opens_attributes ν j [] = refl
  opens_attributes ν j (a ∷ rest) =
      opens_append (give (some (ν j)) (opens a.opening ∷ map holds (a.held ++ (a.closing ∷ [])))) (attributes_from ν (suc j) rest)
      ∙ omega (arith, ap length (opens_held (some (ν j)) (a.held ++ (a.closing ∷ []))), opens_attributes ν (suc j) rest)

-- A strand along which a unit opens here is a validate strand.
abbrev Opening : Bool → Action → Type 0
Opening false a = Unit {0}
Opening true a = a ≡ Validate

abbrev Opens : Entry → Type 0
Opens e = Opening e.strand.here e.strand.action

module _ (Θ : Theory) where
  rule_opens : (t : Option ℕ) (qs : List Rule) → All Opens (map (λ q. record { strand = by_rule q.action q.next none t; schema = q.schema }) qs)
  rule_opens t [] = tt
  rule_opens t (q ∷ qs) = (one q.action, rule_opens t qs)
    where
      one : (a : Action) → Opening (by_rule {U = ℕ} a q.next none t).here (by_rule {U = ℕ} a q.next none t).action
      one Attach = tt
      one Unwrap = tt
      one Validate = refl

  take_opens : (σ : Θ.StartInfo) (ss : List (HeldStrand ℕ)) → All Opens (take_rules Θ σ ss)
  unfolding gather
  take_opens σ [] = tt
  take_opens σ (s ∷ ss) = all_append Opens (map (λ q. record { strand = by_rule q.action q.next none s.target; schema = q.schema }) (Θ.element_rules s.mode σ)) (take_rules Θ σ ss) (rule_opens s.target (Θ.element_rules s.mode σ)) (take_opens σ ss)

  stay_opens : (ss : List (HeldStrand ℕ)) → All Opens (map (λ s. record { strand = stay s; schema = 0 }) ss)
  stay_opens [] = tt
  stay_opens (s ∷ ss) = (tt, stay_opens ss)

  enter_opens : (ls : List (Level Θ)) (σ : Θ.StartInfo) → All Opens (entries_at Θ ls σ)
  enter_opens [] σ = take_opens σ (held_before_root ∷ [])
  enter_opens (l ∷ ls) σ = go (Θ.same_section l.at σ)
    where
      go : (b : Bool) → All Opens (cond b (map (λ s. record { strand = stay s; schema = 0 }) l.strands) (take_rules Θ σ l.strands))
      go true = stay_opens l.strands
      go false = take_opens σ l.strands

  -- Of an element's strands so many open a unit as are new.
  new_opens : (σ : Θ.StartInfo) (u : ℕ) (es : List Entry) → All Opens es → opens_in (gather (start_records Θ σ) (allot u es)) ≡ new_units es
  unfolding gather total
  new_opens σ u [] h = refl
  new_opens σ u (e ∷ es) h = go e.strand.mode e.strand.action e.strand.target e.strand.here e.schema h.0 (λ v. new_opens σ v es h.1)
    where
      go : (m : ℕ) (a : Action) (t : Option ℕ) (b : Bool) (n : ℕ) → Opening b a → ((v : ℕ) → opens_in (gather (start_records Θ σ) (allot v es)) ≡ new_units es)
          → opens_in (gather (start_records Θ σ) (allot u (record { strand = record { mode = m; action = a; target = t; here = b }; schema = n } ∷ es))) ≡ cond b 1 0 + new_units es
      go m a t false n h ih =
          opens_append (give (receiver a t) (map holds (Θ.start_bodies m σ))) (gather (start_records Θ σ) (allot u es))
          ∙ omega (arith, ap length (opens_held (receiver a t) (Θ.start_bodies m σ)), ih u)
      go m a t true n h ih =
          rw h (opens_append (give (some u) (opens (Θ.open_body n σ) ∷ map holds (Θ.start_bodies m σ))) (gather (start_records Θ σ) (allot (suc u) es))
          ∙ omega (arith, ap length (opens_held (some u) (Θ.start_bodies m σ)), ih (suc u)))

  -- Texts and ends open none.
  text_opens : (τ : Θ.TextInfo) (ss : List (HeldStrand ℕ)) → units_opened (gather (text_records Θ τ) ss) ≡ []
  text_opens τ ss =
      gather_gather (λ (p : Record Θ.Body ℕ). elim p.piece [ opens b ↦ p.unit ∷ [] | holds b ↦ [] ]) (text_records Θ τ) ss
      ∙ gather_nothing (λ s. units_opened (text_records Θ τ s)) (λ s. opens_held (receiver s.action s.target) (Θ.text_body τ ∷ [])) ss

  end_opens : (κ : Θ.Kept) (ε : Θ.EndInfo) (ss : List (HeldStrand ℕ)) → units_opened (gather (end_records Θ κ ε) ss) ≡ []
  end_opens κ ε ss =
      gather_gather (λ (p : Record Θ.Body ℕ). elim p.piece [ opens b ↦ p.unit ∷ [] | holds b ↦ [] ]) (end_records Θ κ ε) ss
      ∙ gather_nothing (λ s. units_opened (end_records Θ κ ε s)) (λ s. go (receiver s.action s.target) s.here) ss
    where
      go : (t : Option ℕ) (b : Bool) → units_opened (give t (holds (Θ.end_body κ ε) ∷ closing Θ b)) ≡ []
      go t true = opens_held t (Θ.end_body κ ε ∷ Θ.close_body ∷ [])
      go t false = opens_held t (Θ.end_body κ ε ∷ [])

  units_written : (z : State Θ) (e : TreeEvent Θ) → (after Θ z e).units ≡ z.units + opens_in (written Θ z e)
  unfolding after written gather
  units_written z (start σ) =
      let es = entries_at Θ z.levels σ in
      omega (
        arith,
        opens_append (attributes_from (λ n. n) z.units (units_of Θ σ es)) (gather (start_records Θ σ) (entered Θ z σ)),
        opens_attributes (λ n. n) z.units (units_of Θ σ es),
        new_opens σ (z.units + length (units_of Θ σ es)) es (enter_opens z.levels σ),
      )
  units_written z (text τ) = go z.levels
    where
      go : (ls : List (Level Θ)) → z.units ≡ z.units + opens_in {B = Θ.Body} {U = ℕ} (elim ls [ [] ↦ [] | ◌∷◌ l ls ↦ gather (text_records Θ τ) l.strands ])
      go [] = omega arith
      go (l ∷ ls) = omega (arith, ap length (text_opens τ l.strands))
  units_written z (end ε) = go z.levels
    where
      go : (ls : List (Level Θ)) → z.units ≡ z.units + opens_in {B = Θ.Body} {U = ℕ} (elim ls [ [] ↦ [] | ◌∷◌ l ls ↦ gather (end_records Θ l.at ε) l.strands ])
      go [] = omega arith
      go (l ∷ ls) = omega (arith, ap length (end_opens l.at ε l.strands))

  units_from_lem : (es : List (TreeEvent Θ)) (z : State Θ) → (foldl (after Θ) z es).units ≡ z.units + opens_in (gather (λ x. x) (stream_from Θ z es))
  unfolding stream_from gather
  units_from_lem [] z = omega arith
  units_from_lem (e ∷ es) z = omega (arith, units_from_lem es (after Θ z e), units_written z e, opens_append (written Θ z e) (gather (λ x. x) (stream_from Θ (after Θ z e) es)))

  pub reached_units : (es : List (TreeEvent Θ)) → (reached Θ es).units ≡ length (units_opened (gather (λ x. x) (stream_of Θ es)))
  unfolding stream_of
  reached_units es = omega (arith, units_from_lem es (fresh Θ))

  module _ (one : (m : ℕ) (σ : Θ.StartInfo) → OneKeeps (Θ.element_rules m σ)) (agree : Agree Θ) where
    pub model_units : (es fs : List (TreeEvent Θ)) → IsPrefix Θ (es ++ fs) → length (units_opened (gather (λ x. x) (take (length es) (model_of Θ (tree_of Θ (completed Θ (es ++ fs))))))) ≡ (reached Θ es).units
    model_units es fs p =
        let ends : List (TreeEvent Θ) = added_ends Θ (still_open Θ [] (es ++ fs)) in
        let all : completed Θ (es ++ fs) ≡ es ++ (fs ++ ends) = append_assoc es fs ends in
        let q : IsPrefix Θ (es ++ (fs ++ ends)) = rw all at (completed_prefix Θ (es ++ fs) p).0 in
        rw all (ap (λ l. length (units_opened (gather (λ x. x) l))) (sym (stream_within Θ one agree es (fs ++ ends) q)) ∙ sym (reached_units es))
