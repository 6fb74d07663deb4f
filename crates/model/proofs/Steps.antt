-- The state after some events: one event more; its levels are the open elements; every state reached is coherent.
use mathlib.Core.Path.{◌≡◌, refl, sym, ap, subst, ◌∙◌}
use mathlib.Core.Bool.{Bool, true, false, cond}
use mathlib.Core.List.{List, [], ◌∷◌, ◌++◌, map, tail, foldl, foldl-append}
use mathlib.Core.Option.{Option, none, some}
use Prim.Native.Nat.{ℕ, suc, ◌+◌, ◌≤◌, ◌<◌}
use native.Mathlib.Nat.{add-zero}
use native.Mathlib.Omega.{arith}
use lib.ListN.{length, length-map}
use Rattle.laws.specs.Gather.{gather, total}
use Rattle.laws.proofs.Gather.{total_append}
use Rattle.model.specs.Theory.{Action, Attach, Unwrap, Validate, Rule, Theory}
use Rattle.model.specs.Tree.{TreeEvent, start, text, end, still_open}
use Rattle.model.specs.Stream.{Level, State, Entry, allot, new_units, take_rules, entries_at, units_of, text_records, end_records, written, after, fresh, reached, stream_from, stream_of, HeldStrand, held_before_root, stay, by_rule}
use Rattle.model.proofs.Lists.{All, all_append, all_weaken, all_map, all_unmap}
use Rattle.model.proofs.Cut.{Follows, IsPrefix}

module _ (Θ : Theory) where
  -- One event more.
  pub reached_step : (es : List (TreeEvent Θ)) (e : TreeEvent Θ) → reached Θ (es ++ (e ∷ [])) ≡ after Θ (reached Θ es) e
  reached_step es e = foldl-append (after Θ) (fresh Θ) es (e ∷ [])

  stream_next : (z : State Θ) (es : List (TreeEvent Θ)) (e : TreeEvent Θ) → stream_from Θ z (es ++ (e ∷ [])) ≡ stream_from Θ z es ++ (written Θ (foldl (after Θ) z es) e ∷ [])
  unfolding stream_from
  stream_next z [] e = refl
  stream_next z (x ∷ es) e = rw (stream_next (after Θ z x) es e)

  pub stream_step : (es : List (TreeEvent Θ)) (e : TreeEvent Θ) → stream_of Θ (es ++ (e ∷ [])) ≡ stream_of Θ es ++ (written Θ (reached Θ es) e ∷ [])
  unfolding stream_of stream_from
  stream_step es e = stream_next (fresh Θ) es e

  -- The levels are the elements still open.
  levels_from : (z : State Θ) (es : List (TreeEvent Θ)) → map (λ l. l.at) (foldl (after Θ) z es).levels ≡ still_open Θ (map (λ l. l.at) z.levels) es
  unfolding after
  levels_from z [] = refl
  levels_from z (start σ ∷ es) = levels_from (after Θ z (start σ)) es
  levels_from z (text τ ∷ es) = levels_from z es
  levels_from z (end ε ∷ es) = levels_from (after Θ z (end ε)) es ∙ ap (λ x. still_open Θ x es) (popped z.levels)
    where
      popped : (ls : List (Level Θ)) → map (λ l. l.at) (tail ls) ≡ tail (map (λ l. l.at) ls)
      popped [] = refl
      popped (l ∷ ls) = refl

  pub levels_open : (es : List (TreeEvent Θ)) → map (λ l. l.at) (reached Θ es).levels ≡ still_open Θ [] es
  levels_open es = levels_from (fresh Θ) es

  -- The units: those opened before, a start's attribute units, its new units.
  pub units_after : (z : State Θ) (σ : Θ.StartInfo) → (after Θ z (start σ)).units ≡ z.units + length (units_of Θ σ (entries_at Θ z.levels σ)) + new_units (entries_at Θ z.levels σ)
  unfolding after
  units_after z σ = refl

  -- A text and an end, where l is the innermost open element.
  pub written_text : (z : State Θ) (l : Level Θ) (ls : List (Level Θ)) (τ : Θ.TextInfo) → z.levels ≡ l ∷ ls → written Θ z (text τ) ≡ gather (text_records Θ τ) l.strands
  unfolding written
  written_text z l ls τ e = rw e

  pub written_end : (z : State Θ) (l : Level Θ) (ls : List (Level Θ)) (ε : Θ.EndInfo) → z.levels ≡ l ∷ ls → written Θ z (end ε) ≡ gather (end_records Θ l.at ε) l.strands
  unfolding written
  written_end z l ls ε e = rw e

  pub after_end : (z : State Θ) (l : Level Θ) (ls : List (Level Θ)) (ε : Θ.EndInfo) → z.levels ≡ l ∷ ls → after Θ z (end ε) ≡ record { levels = ls; units = z.units }
  unfolding after
  after_end z l ls ε e = rw e

  -- What may come next: the root's start first, and then anything while an element is open.
  abbrev pub MayFollow : List (TreeEvent Θ) → List Θ.Kept → TreeEvent Θ → Type 0
  MayFollow [] around (start σ) = Unit {0}
  MayFollow [] around (text τ) = ⊥
  MayFollow [] around (end ε) = ⊥
  MayFollow (x ∷ es) [] e = ⊥
  MayFollow (x ∷ es) (κ ∷ around) e = Unit {0}

  follows_next : (around : List Θ.Kept) (es : List (TreeEvent Θ)) (e : TreeEvent Θ) (κ : Θ.Kept) (open' : List Θ.Kept) → Follows Θ around es → still_open Θ around es ≡ κ ∷ open' → Follows Θ around (es ++ (e ∷ []))
  follows_next [] [] e κ open' f p = let z : ◌≡◌ {A = ℕ} 0 1 = cc in absurd (omega arith)
  follows_next (α ∷ around) [] (start σ) κ open' f p = tt
  follows_next (α ∷ around) [] (text τ) κ open' f p = tt
  follows_next (α ∷ around) [] (end ε) κ open' f p = tt
  follows_next [] (x ∷ es) e κ open' f p = absurd f
  follows_next (α ∷ around) (start σ ∷ es) e κ open' f p = follows_next (Θ.kept_of σ ∷ α ∷ around) es e κ open' f p
  follows_next (α ∷ around) (text τ ∷ es) e κ open' f p = follows_next (α ∷ around) es e κ open' f p
  follows_next (α ∷ around) (end ε ∷ es) e κ open' f p = follows_next around es e κ open' f p

  pub prefix_step : (es : List (TreeEvent Θ)) (e : TreeEvent Θ) → IsPrefix Θ es → MayFollow es (still_open Θ [] es) e → IsPrefix Θ (es ++ (e ∷ []))
  prefix_step [] (start σ) p m = tt
  prefix_step [] (text τ) p m = absurd m
  prefix_step [] (end ε) p m = absurd m
  prefix_step (start σ ∷ es) e p m = go (still_open Θ (Θ.kept_of σ ∷ []) es) refl m
    where
      go : (around : List Θ.Kept) → still_open Θ (Θ.kept_of σ ∷ []) es ≡ around → MayFollow (start σ ∷ es) around e → Follows Θ (Θ.kept_of σ ∷ []) (es ++ (e ∷ []))
      go [] q m = absurd m
      go (α ∷ around) q m = follows_next (Θ.kept_of σ ∷ []) es e α around p q
  prefix_step (text τ ∷ es) e p m = absurd p
  prefix_step (end ε ∷ es) e p m = absurd p

-- Coherence: a target is below the count of units, a validate strand has one, and each level has a strand.
abbrev pub Below : ℕ → Option ℕ → Type 0
Below u none = Unit {0}
Below u (some t) = t < u

abbrev pub HasTarget : Action → Option ℕ → Type 0
HasTarget Attach t = Unit {0}
HasTarget Unwrap t = Unit {0}
HasTarget Validate none = ⊥
HasTarget Validate (some u) = Unit {0}

abbrev pub StrandOk : ℕ → HeldStrand ℕ → Type 0
StrandOk u s = Below u s.target × HasTarget s.action s.target

pub below_more : (u v : ℕ) (t : Option ℕ) → u ≤ v → Below u t → Below v t
below_more u v none h b = tt
below_more u v (some t) h b = omega arith

strands_more : (u v : ℕ) (ss : List (HeldStrand ℕ)) → u ≤ v → All (StrandOk u) ss → All (StrandOk v) ss
strands_more u v ss h a = all_weaken (StrandOk u) (StrandOk v) (λ s b. (below_more u v s.target h b.0, b.1)) ss a

-- An entry before it is allotted a unit.
abbrev EntryOk : ℕ → Bool → Action → Option ℕ → Type 0
EntryOk u false a t = Below u t × HasTarget a t
EntryOk u true a t = a ≡ Validate

abbrev Ok : ℕ → Entry → Type 0
Ok u e = EntryOk u e.strand.here e.strand.action e.strand.target

abbrev entry : ℕ → Action → Option ℕ → Bool → ℕ → Entry
entry m a t b schema = record { strand = record { mode = m; action = a; target = t; here = b }; schema = schema }

allot_ok : (u v w : ℕ) (es : List Entry) → u ≤ v → v + new_units es ≤ w → All (Ok u) es → All (StrandOk w) (map (λ e. e.strand) (allot v es))
unfolding total
allot_ok u v w [] h k a = tt
allot_ok u v w (e ∷ es) h k a = go e.strand.mode e.strand.action e.strand.target e.strand.here e.schema k a.0 (λ x p q. allot_ok u x w es p q a.1)
  where
    go : (m : ℕ) (c : Action) (t : Option ℕ) (b : Bool) (n : ℕ) → v + new_units (entry m c t b n ∷ es) ≤ w → EntryOk u b c t → ((x : ℕ) → u ≤ x → x + new_units es ≤ w → All (StrandOk w) (map (λ e. e.strand) (allot x es)))
        → All (StrandOk w) (map (λ e. e.strand) (allot v (entry m c t b n ∷ es)))
    go m c t false n k o ih = ((below_more u w t (omega arith) o.0, o.1), ih v h (omega arith))
    go m c t true n k o ih = ((omega arith, rw o tt), ih (suc v) (omega arith) (omega arith))

-- Allotting gives units to entries, and changes no mode.
abbrev pub entry_modes : List Entry → List ℕ
entry_modes = map (λ e. e.strand.mode)

pub allot_modes : (u : ℕ) (es : List Entry) → entry_modes (allot u es) ≡ entry_modes es
allot_modes u [] = refl
allot_modes u (e ∷ es) = go e.strand.mode e.strand.action e.strand.target e.strand.here e.schema (λ v. allot_modes v es)
  where
    go : (m : ℕ) (a : Action) (t : Option ℕ) (b : Bool) (n : ℕ) → ((v : ℕ) → entry_modes (allot v es) ≡ entry_modes es) → entry_modes (allot u (entry m a t b n ∷ es)) ≡ m ∷ entry_modes es
    go m a t false n ih = ap (λ x. m ∷ x) (ih u)
    go m a t true n ih = ap (λ x. m ∷ x) (ih (suc u))

pub allot_length : (u : ℕ) (es : List Entry) → length (allot u es) ≡ length es
allot_length u es = sym (length-map (allot u es) (λ e. e.strand.mode)) ∙ ap length (allot_modes u es) ∙ length-map es (λ e. e.strand.mode)

pub allot_each : (P : ℕ → Type 0) (u : ℕ) (es : List Entry) → All (λ e. P e.strand.mode) es → All (λ e. P e.strand.mode) (allot u es)
allot_each P u es h = all_unmap P (λ e. e.strand.mode) (allot u es) (subst (All P) (sym (allot_modes u es)) (all_map P (λ e. e.strand.mode) es h))

-- Part after part, for a loop that extends a list at its end.
pub new_append : (xs ys : List Entry) → new_units (xs ++ ys) ≡ new_units xs + new_units ys
new_append xs ys = total_append (λ (e : Entry). cond e.strand.here 1 0) xs ys

pub allot_append : (u : ℕ) (xs ys : List Entry) → allot u (xs ++ ys) ≡ allot u xs ++ allot (u + new_units xs) ys
unfolding total
allot_append u [] ys = rw add-zero
allot_append u (x ∷ xs) ys = go x.strand.mode x.strand.action x.strand.target x.strand.here x.schema (λ v. allot_append v xs ys)
  where
    go : (m : ℕ) (c : Action) (t : Option ℕ) (b : Bool) (n : ℕ) → ((v : ℕ) → allot v (xs ++ ys) ≡ allot v xs ++ allot (v + new_units xs) ys)
        → allot u (entry m c t b n ∷ (xs ++ ys)) ≡ allot u (entry m c t b n ∷ xs) ++ allot (u + new_units (entry m c t b n ∷ xs)) ys
    go m c t false n h =
        let a : u + (0 + new_units xs) ≡ u + new_units xs = omega arith in
        rw (a, h u)
    go m c t true n h =
        let a : u + (1 + new_units xs) ≡ suc u + new_units xs = omega arith in
        rw (a, h (suc u))

rule_ok : (u : ℕ) (t : Option ℕ) (a : Action) (schema next : ℕ) → Below u t → Ok u (record { strand = by_rule a next none t; schema = schema })
rule_ok u t Attach schema next b = (b, tt)
rule_ok u t Unwrap schema next b = (b, tt)
rule_ok u t Validate schema next b = refl

module _ (Θ : Theory) where
  abbrev pub LevelOk : ℕ → Level Θ → Type 0
  LevelOk u l = All (StrandOk u) l.strands

  abbrev pub Coherent : State Θ → Type 0
  Coherent z = All (LevelOk z.units) z.levels

  abbrev made : Option ℕ → Rule → Entry
  made t q = record { strand = by_rule q.action q.next none t; schema = q.schema }

  rules_ok : (u : ℕ) (t : Option ℕ) (qs : List Rule) → Below u t → All (Ok u) (map (made t) qs)
  rules_ok u t [] b = tt
  rules_ok u t (q ∷ qs) b = (rule_ok u t q.action q.schema q.next b, rules_ok u t qs b)

  take_ok : (u : ℕ) (σ : Θ.StartInfo) (ss : List (HeldStrand ℕ)) → All (StrandOk u) ss → All (Ok u) (take_rules Θ σ ss)
  unfolding gather
  take_ok u σ [] a = tt
  take_ok u σ (s ∷ ss) a = all_append (Ok u) (map (made s.target) (Θ.element_rules s.mode σ)) (take_rules Θ σ ss) (rules_ok u s.target (Θ.element_rules s.mode σ) a.0.0) (take_ok u σ ss a.1)

  stay_ok : (u : ℕ) (ss : List (HeldStrand ℕ)) → All (StrandOk u) ss → All (Ok u) (map (λ s. record { strand = stay s; schema = 0 }) ss)
  stay_ok u [] a = tt
  stay_ok u (s ∷ ss) a = (a.0, stay_ok u ss a.1)

  enter_ok : (u : ℕ) (ls : List (Level Θ)) (σ : Θ.StartInfo) → All (LevelOk u) ls → All (Ok u) (entries_at Θ ls σ)
  enter_ok u [] σ a = take_ok u σ (held_before_root ∷ []) ((tt, tt), tt)
  enter_ok u (l ∷ ls) σ a = go (Θ.same_section l.at σ)
    where
      go : (b : Bool) → All (Ok u) (cond b (map (λ s. record { strand = stay s; schema = 0 }) l.strands) (take_rules Θ σ l.strands))
      go true = stay_ok u l.strands a.0
      go false = take_ok u σ l.strands a.0

  levels_more : (u v : ℕ) (ls : List (Level Θ)) → u ≤ v → All (LevelOk u) ls → All (LevelOk v) ls
  levels_more u v ls h a = all_weaken (LevelOk u) (LevelOk v) (λ l b. strands_more u v l.strands h b) ls a

  pub after_coherent : (z : State Θ) (e : TreeEvent Θ) → Coherent z → Coherent (after Θ z e)
  unfolding after
  after_coherent z (start σ) c =
      let es = entries_at Θ z.levels σ in
      let u : ℕ = z.units + length (units_of Θ σ es) in (
        allot_ok z.units u (u + new_units es) es (omega arith) (omega arith) (enter_ok z.units z.levels σ c),
        levels_more z.units (u + new_units es) z.levels (omega arith) c,
      )
  after_coherent z (text τ) c = c
  after_coherent z (end ε) c = go z.levels c
    where
      go : (ls : List (Level Θ)) → All (LevelOk z.units) ls → All (LevelOk z.units) (tail ls)
      go [] c = tt
      go (l ∷ ls) c = c.1

  pub reached_coherent : (es : List (TreeEvent Θ)) → Coherent (reached Θ es)
  reached_coherent es = from (fresh Θ) es tt
    where
      from : (z : State Θ) (es : List (TreeEvent Θ)) → Coherent z → Coherent (foldl (after Θ) z es)
      from z [] c = c
      from z (e ∷ es) c = from (after Θ z e) es (after_coherent z e c)
