-- What a reading definition answers stays when more bytes come behind, unless the slice ended; and the bytes before the place where reading stops do
-- not settle the answer.
use Rattle.std.specs.Prelude.{Ok, Err}
use Prim.Native.Nat.{ℕ, zero, suc, ◌+◌}
use mathlib.Core.Path.{◌≡◌, refl, sym, subst}
use mathlib.Core.List.{List, [], ◌∷◌, ◌++◌}
use mathlib.Core.Bool.{true, false, cond, ◌||◌}
use mathlib.Core.Logic.{◌⊎◌, inl, inr}
use native.Mathlib.Omega.{arith}
use lib.ListN.{take}
use lib.Seq.{take-length}
use lib.Dec.{eqb}
use Rattle.laws.specs.Reading.{Stable, stable_same, stable_cond, stable_peek, run_stable}
use Rattle.laws.proofs.Kept.{Kept, kept_bind, cut_short}
use Rattle.utf8.specs.declared.Set.TheVariants as set
use Rattle.characters.specs.CanBegin.{begins}
use Rattle.lexer.specs.Stops.{stop_place, after_read, after_name}
use Rattle.lexer.specs.Names.{space_step, spaces_end, part_state, part_step, part_end, name_of, prefixed_at, name_at}
use Rattle.lexer.specs.Values.{value_end}
use Rattle.lexer.specs.Tags.{wanted, equals_end, attr_of, quoted_at, attribute_at, slash_at, turn_behind, turn_at, TagRead, tag_stopped, full_turn, attr_then, turn_then, attrs_from, tag_at, end_tag_at}
use Rattle.lexer.specs.declared.Stop.{Stop}
use Rattle.lexer.specs.declared.Stop.TheVariants.{Bad, Long, Cut}
use Rattle.lexer.specs.Reads.{Read, Named, Attributed, TurnRead, Tagged, Ended}
use Rattle.lexer.specs.declared.Name.{Name}
use Rattle.lexer.specs.declared.Attr.{Attr}
use Rattle.lexer.specs.declared.Turn.TheVariants as turn
use Rattle.lexer.proofs.ValueLaws.{ValueTo, value_inside, value_stable}
use Rattle.lexer.proofs.Inside.{StopInside, ReadInside, within_read, TaggedInside, tag_inside, EndedInside, end_tag_inside}

-- ---- what is read behind what was read. C: the answers that may change, and what Cut becomes is one
module _ {A : Type 0} (C : A → Type 0) (f : Stop → A) (e : C (f Cut)) where
  pub kept_after : (k k' : ℕ → A) → ((j : ℕ) → Kept C (k j) (k' j)) → (r r' : Read) → Stable (Err Cut) r r' → Kept C (after_read f r k) (after_read f r' k')
  kept_after k k' h = kept_bind (Err Cut) C (λ (r : Read). after_read f r k) (λ (r : Read). after_read f r k') e each
    where
      each : (r : Read) → Kept C (after_read f r k) (after_read f r k')
      each (Ok j) = h j
      each (Err x) = λ n. refl

  pub kept_after_name : (k k' : Name → A) → ((n : Name) → Kept C (k n) (k' n)) → (r r' : Named) → Stable (Err Cut) r r' → Kept C (after_name f r k) (after_name f r' k')
  kept_after_name k k' h = kept_bind (Err Cut) C (λ (r : Named). after_name f r k) (λ (r : Named). after_name f r k') e each
    where
      each : (r : Named) → Kept C (after_name f r k) (after_name f r k')
      each (Ok n) = h n
      each (Err x) = λ m. refl

module _ {A : Type 0} (f : Stop → A) where
  pub stable_after : (k k' : ℕ → A) → ((j : ℕ) → Stable (f Cut) (k j) (k' j)) → (r r' : Read) → Stable (Err Cut) r r' → Stable (f Cut) (after_read f r k) (after_read f r' k')
  stable_after = kept_after (λ (a : A). a ≡ f Cut) f refl

  pub stable_after_name : (k k' : Name → A) → ((n : Name) → Stable (f Cut) (k n) (k' n)) → (r r' : Named) → Stable (Err Cut) r r' → Stable (f Cut) (after_name f r k) (after_name f r' k')
  stable_after_name = kept_after_name (λ (a : A). a ≡ f Cut) f refl

-- the answers of a start tag that may change
abbrev pub CutTag : TagRead → Type 0
CutTag r = r.answer ≡ Err Cut

module _ (s t : List ℕ) where
  -- ---- space, parts, names
  pub spaces_stable : (at : ℕ) → Stable (Err Cut) (spaces_end s at) (spaces_end (s ++ t) at)
  unfolding spaces_end
  spaces_stable at = run_stable (Err Cut) space_step 0 s t at

  pub part_stable : (at : ℕ) → Stable (Err Cut) (part_end s at) (part_end (s ++ t) at)
  unfolding part_end
  part_stable at = run_stable (Err Cut) part_step (part_state 64 []) s t at

  pub prefixed_stable : (at part : ℕ) → Stable (Err Cut) (prefixed_at s at part) (prefixed_at (s ++ t) at part)
  unfolding prefixed_at
  prefixed_stable at part = stable_after Err _ _ (λ (j : ℕ). stable_same (Err Cut) (name_of at part j)) _ _ (part_stable part)

  pub name_stable : (at : ℕ) → Stable (Err Cut) (name_at s at) (name_at (s ++ t) at)
  unfolding name_at
  name_stable at =
      stable_after Err _ _
      (λ (j : ℕ).
      stable_peek (Err Cut) s t j _ _ (λ (b : ℕ).
      stable_cond (Err Cut) (eqb b 0x3A) (prefixed_stable at (j + 1)) (stable_same (Err Cut) (name_of at at j))))
      _
      _
      (part_stable at)

  -- ---- attributes
  pub wanted_stable : (at byte : ℕ) → Stable (Err Cut) (wanted s at byte) (wanted (s ++ t) at byte)
  unfolding wanted
  wanted_stable at byte = stable_peek (Err Cut) s t at _ _ (λ (b : ℕ). stable_same (Err Cut) (cond (eqb b byte) (Ok (at + 1)) (Err (Bad at))))

  pub equals_stable : (at : ℕ) → Stable (Err Cut) (equals_end s at) (equals_end (s ++ t) at)
  unfolding equals_end
  equals_stable at =
      stable_after Err _ _ (λ (i : ℕ). stable_after Err _ _ (λ (j : ℕ). spaces_stable j) _ _ (wanted_stable i 0x3D)) _ _ (spaces_stable at)

  pub quoted_stable : (name : Name) (at : ℕ) → Stable (Err Cut) (quoted_at s name at) (quoted_at (s ++ t) name at)
  unfolding quoted_at
  quoted_stable name at =
      stable_peek (Err Cut) s t at _ _ (λ (q : ℕ).
      stable_cond (Err Cut) (eqb q 0x22 || eqb q 0x27)
      (stable_after Err _ _ (λ (j : ℕ). stable_same (Err Cut) (Ok (attr_of name (at + 1) j))) _ _ (value_stable s t (at + 1) q))
      (stable_same (Err Cut) (Err (Bad at))))

  pub attribute_stable : (at : ℕ) → Stable (Err Cut) (attribute_at s at) (attribute_at (s ++ t) at)
  unfolding attribute_at
  attribute_stable at =
      stable_after_name Err _ _ (λ (name : Name). stable_after Err _ _ (λ (quote : ℕ). quoted_stable name quote) _ _ (equals_stable name.end)) _ _ (name_stable at)

  -- ---- what stands behind a tag's name or an attribute
  pub slash_stable : (at : ℕ) → Stable (Err Cut) (slash_at s at) (slash_at (s ++ t) at)
  unfolding slash_at
  slash_stable at = stable_after Err _ _ (λ (next : ℕ). stable_same (Err Cut) (Ok (turn.Close next true))) _ _ (wanted_stable (at + 1) 0x3E)

  pub behind_stable : (at i : ℕ) → Stable (Err Cut) (turn_behind s at i) (turn_behind (s ++ t) at i)
  unfolding turn_behind
  behind_stable at i =
      stable_peek (Err Cut) s t i _ _ (λ (b : ℕ).
      stable_cond (Err Cut) (eqb b 0x3E) (stable_same (Err Cut) (Ok (turn.Close (i + 1) false)))
      (stable_cond (Err Cut) (eqb b 0x2F) (slash_stable i)
      (stable_same (Err Cut) (cond (eqb i at) (Err (Bad i)) (cond (begins set.Start [] b) (Ok (turn.Attribute i)) (Err (Bad i)))))))

  pub turn_stable : (at : ℕ) → Stable (Err Cut) (turn_at s at) (turn_at (s ++ t) at)
  unfolding turn_at
  turn_stable at = stable_after Err _ _ (λ (i : ℕ). behind_stable at i) _ _ (spaces_stable at)

  -- ---- tags
  pub attrs_stable : (name : Name) (room : ℕ) (l : List Attr) (i : ℕ) → Kept CutTag (attrs_from s name l room i) (attrs_from (s ++ t) name l room i)
  unfolding attrs_from
  attrs_stable name zero l i = kept_bind (Err Cut) CutTag (full_turn name l) (full_turn name l) refl (λ x n. refl) _ _ (turn_stable i)
  attrs_stable name (suc room) l i =
      kept_bind (Err Cut) CutTag (turn_then s (more s) name l) (turn_then (s ++ t) (more (s ++ t)) name l) refl (each (attrs_stable name room)) _ _ (turn_stable i)
    where
      more : List ℕ → List Attr → ℕ → TagRead
      more scene l' k = attrs_from scene name l' room k

      Same : Type 0
      Same = (l' : List Attr) (k : ℕ) → Kept CutTag (more s l' k) (more (s ++ t) l' k)

      one : Same → (x : Attributed) → Kept CutTag (attr_then (more s) l x) (attr_then (more (s ++ t)) l x)
      one h (Ok a) = h (l ++ (a ∷ [])) (a.stop + 1)
      one h (Err x) = λ n. refl

      each : Same → (x : TurnRead) → Kept CutTag (turn_then s (more s) name l x) (turn_then (s ++ t) (more (s ++ t)) name l x)
      each h (Ok (turn.Close next empty)) = λ n. refl
      each h (Ok (turn.Attribute j)) = kept_bind (Err Cut) CutTag (attr_then (more s) l) (attr_then (more (s ++ t)) l) refl (one h) _ _ (attribute_stable j)
      each h (Err x) = λ n. refl

  pub tag_stable : (at : ℕ) → Kept CutTag (tag_at s at) (tag_at (s ++ t) at)
  unfolding tag_at
  tag_stable at = kept_after_name CutTag (tag_stopped []) refl _ _ (λ (name : Name). attrs_stable name 16 [] name.end) _ _ (name_stable at)

  pub end_tag_stable : (at : ℕ) → Stable (Err Cut) (end_tag_at s at) (end_tag_at (s ++ t) at)
  unfolding end_tag_at
  end_tag_stable at =
      stable_after_name Err _ _
      (λ (name : Name).
      stable_after Err _ _ (λ (i : ℕ).
      stable_after Err _ _ (λ (next : ℕ) n. refl) _ _ (wanted_stable i 0x3E)) _ _ (spaces_stable name.end))
      _
      _
      (name_stable at)

-- ---- the bytes before the place where reading stops: nothing is settled there
-- Is a x: the answer a stops with x
module _ {A : Type 0} (C : A → Type 0) (decided : (a : A) → C a ⊎ (C a → ⊥)) (f : List ℕ → A) (kept : (s t : List ℕ) → Kept C (f s) (f (s ++ t))) (at : ℕ) (Is : A → Stop → Type 0) (cut : (a : A) → Is a Cut → C a) (inside : (l : List ℕ) (x : Stop) → Is (f l) x → StopInside l at x) where
  pub stops_short : (s : List ℕ) (x : Stop) → Is (f s) x → C (f (take (stop_place s x) s))
  stops_short s (Bad p) h = cut_short C decided f kept p s (λ l e. (inside l (Bad p) (subst (λ (a : A). Is a (Bad p)) (sym e) h)).1)
  stops_short s (Long p) h = cut_short C decided f kept p s (λ l e. (inside l (Long p) (subst (λ (a : A). Is a (Long p)) (sym e) h)).1)
  stops_short s Cut h = rw (take-length s) (cut (f s) h)

pub read_decided : (a : Read) → (a ≡ Err Cut) ⊎ (a ≡ Err Cut → ⊥)
read_decided (Ok j) = inr (λ e. let z : ◌≡◌ {A = ℕ} 0 1 = cc in omega arith)
read_decided (Err (Bad p)) = inr (λ e. let z : ◌≡◌ {A = ℕ} 0 1 = cc in omega arith)
read_decided (Err (Long p)) = inr (λ e. let z : ◌≡◌ {A = ℕ} 0 1 = cc in omega arith)
read_decided (Err Cut) = inl refl

tagged_decided : (a : Tagged) → (a ≡ Err Cut) ⊎ (a ≡ Err Cut → ⊥)
tagged_decided (Ok t) = inr (λ e. let z : ◌≡◌ {A = ℕ} 0 1 = cc in omega arith)
tagged_decided (Err (Bad p)) = inr (λ e. let z : ◌≡◌ {A = ℕ} 0 1 = cc in omega arith)
tagged_decided (Err (Long p)) = inr (λ e. let z : ◌≡◌ {A = ℕ} 0 1 = cc in omega arith)
tagged_decided (Err Cut) = inl refl

ended_decided : (a : Ended) → (a ≡ Err Cut) ⊎ (a ≡ Err Cut → ⊥)
ended_decided (Ok t) = inr (λ e. let z : ◌≡◌ {A = ℕ} 0 1 = cc in omega arith)
ended_decided (Err (Bad p)) = inr (λ e. let z : ◌≡◌ {A = ℕ} 0 1 = cc in omega arith)
ended_decided (Err (Long p)) = inr (λ e. let z : ◌≡◌ {A = ℕ} 0 1 = cc in omega arith)
ended_decided (Err Cut) = inl refl

pub value_short : (s : List ℕ) (at quote : ℕ) (x : Stop) → value_end s at quote ≡ Err x → value_end (take (stop_place s x) s) at quote ≡ Err Cut
value_short s at quote x =
    stops_short (λ (r : Read). r ≡ Err Cut) read_decided (λ (l : List ℕ). value_end l at quote) (λ l m. value_stable l m at quote) at (λ (r : Read) (y : Stop). r ≡ Err y) (λ r e. e)
    (λ l y e. subst (ReadInside (ValueTo l quote at) l at) e (within_read (ValueTo l quote at) l at (value_end l at quote) (value_inside l at quote)))
    s
    x

pub tag_short : (s : List ℕ) (at : ℕ) (x : Stop) → (tag_at s at).answer ≡ Err x → (tag_at (take (stop_place s x) s) at).answer ≡ Err Cut
tag_short s at x =
    stops_short CutTag (λ (r : TagRead). tagged_decided r.answer) (λ (l : List ℕ). tag_at l at) (λ l m. tag_stable l m at) at (λ (r : TagRead) (y : Stop). r.answer ≡ Err y) (λ r e. e)
    (λ l y e. subst (TaggedInside l at (tag_at l at).attrs) e (tag_inside l at).answer)
    s
    x

pub end_tag_short : (s : List ℕ) (at : ℕ) (x : Stop) → end_tag_at s at ≡ Err x → end_tag_at (take (stop_place s x) s) at ≡ Err Cut
end_tag_short s at x =
    stops_short (λ (r : Ended). r ≡ Err Cut) ended_decided (λ (l : List ℕ). end_tag_at l at) (λ l m. end_tag_stable l m at) at (λ (r : Ended) (y : Stop). r ≡ Err y) (λ r e. e)
    (λ l y e. subst (EndedInside l at) e (end_tag_inside l at))
    s
    x
