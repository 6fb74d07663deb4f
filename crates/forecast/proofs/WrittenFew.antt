-- What an event writes, by the stream: at most 34 records for each strand, and its attribute units.
--     keep_few, pairs_length       lists
--     element_few, written_few     of a start, of an event
use Prim.Native.Nat.{ℕ, suc, ◌+◌, ◌*◌, ◌≤◌}
use mathlib.Core.Path.{◌≡◌, refl, sym, ◌∙◌}
use mathlib.Core.List.{List, [], ◌∷◌, ◌++◌, map}
use mathlib.Core.Bool.{Bool, true, false}
use mathlib.Core.Option.{Option, none, some}
use native.Mathlib.Omega.{arith}
use lib.ListN.{length, length-append, length-map}
use Rattle.laws.specs.Lists.{keep}
use Rattle.laws.specs.Gather.{gather, total}
use Rattle.laws.proofs.Holds.{holds_cond}
use Rattle.table.specs.Table.{Table}
use Rattle.reader.specs.Events as scene
use Rattle.reader.specs.declared.Span.{Span}
use Rattle.model.specs.Theory.{Piece, holds}
use Rattle.model.specs.Tree.{TreeEvent, start, text, end}
use Rattle.model.specs.Elements.{Attribute, Element, attribute_of, element_of}
use Rattle.model.specs.Records.{Body, attribute_bodies}
use Rattle.model.specs.Groups.{kept, start_bodies}
use Rattle.model.specs.Stream.{Level, State, Entry, HeldStrand, entries_at, units_of, entered, start_records, text_records, end_records, written, receiver, give, attributes_from, opening, closing}
use Rattle.model.specs.Dispatch.{dispatch, told}
use Rattle.model.proofs.Assigned.{modes_at, attributes_at}
use Rattle.model.proofs.Count.{attribute_count, length_give, length_attributes}
use Rattle.sessions.proofs.Followed.{EventFew}
use Rattle.sessions.proofs.NewStrands.{new_length}

pub keep_few : {A : Type 0} (p : A → Bool) (l : List A) → length (keep p l) ≤ length l
unfolding keep
keep_few p [] = omega arith
keep_few {A} p (x ∷ l) = holds_cond (λ (r : List A). length r ≤ suc (length l)) (p x) (λ e. omega (arith, keep_few p l)) (λ e. omega (arith, keep_few p l))

-- an attribute and its value for each
pub pairs_length : (l : List Attribute) → length (gather attribute_bodies l) ≡ 2 * length l
unfolding gather
pairs_length [] = refl
pairs_length (a ∷ l) = omega (arith, pairs_length l)

gather_few : {A B : Type 0} (f : A → List B) → ((x : A) → length (f x) ≤ 34) → (xs : List A) → length (gather f xs) ≤ 34 * length xs
unfolding gather
gather_few f h [] = omega arith
gather_few f h (x ∷ xs) = omega (arith, h x, gather_few f h xs, length-append (f x) (gather f xs))

give_few : {B U : Type 0} (n : ℕ) (o : Option U) (ps : List (Piece B)) → length ps ≤ n → length (give o ps) ≤ n
give_few n none ps h = omega arith
give_few n (some u) ps h = omega (arith, length_give (some u) ps)

bodies_few : (t : Table) (m : ℕ) (e : Element) → length e.attributes ≤ 16 → length (start_bodies t m e) ≤ 33
unfolding start_bodies
bodies_few t m e h = omega (arith, h, keep_few (kept t m e) e.attributes, pairs_length (keep (kept t m e) e.attributes))

pub element_few : (t : Table) (s : List ℕ) (e : scene.Start) → length e.attributes ≤ 16 → length (element_of t s e).attributes ≤ 16
unfolding element_of
element_few t s e h = omega (arith, h, length-map e.attributes (attribute_of t s))

module _ (t : Table) where
  -- 34 records for each strand, and those of its attribute units
  abbrev pub most_of : State (dispatch t) → TreeEvent (dispatch t) → ℕ
  most_of z e = 34 * length (modes_at (dispatch t) z e) + total attribute_count (attributes_at (dispatch t) z e)

  start_few : (z : State (dispatch t)) (σ : Element) → length σ.attributes ≤ 16 → length (written (dispatch t) z (start σ)) ≤ most_of z (start σ)
  unfolding written
  start_few z σ h =
      let es = entries_at (dispatch t) z.levels σ in
      let us = units_of (dispatch t) σ es in
      let units = attributes_from (λ n. n) z.units us in
      let starts : length (gather (start_records (dispatch t) σ) (entered (dispatch t) z σ)) ≤ 34 * length (entered (dispatch t) z σ) = gather_few (start_records (dispatch t) σ) each (entered (dispatch t) z σ) in
      let strands : length (entered (dispatch t) z σ) ≡ length es = sym (length-map (entered (dispatch t) z σ) (λ (e : Entry). e.strand)) ∙ new_length t z σ in
      let modes : length (map (λ (e : Entry). e.strand.mode) es) ≡ length es = length-map es (λ (e : Entry). e.strand.mode) in
      omega (arith, length-append units (gather (start_records (dispatch t) σ) (entered (dispatch t) z σ)), length_attributes (λ n. n) z.units us, starts, strands, modes)
    where
      opening_few : (n : ℕ) (here : Bool) → length (opening (dispatch t) σ n here) ≤ 1
      opening_few n true = omega arith
      opening_few n false = omega arith

      each : (e : Entry) → length (start_records (dispatch t) σ e) ≤ 34
      each e =
          let bodies = start_bodies t e.strand.mode σ in
          let open' = opening (dispatch t) σ e.schema e.strand.here in
          give_few 34 (receiver e.strand.action e.strand.target) (open' ++ map holds bodies)
          (omega (arith, length-append open' (map holds bodies), length-map bodies (λ (b : Body). holds b), opening_few e.schema e.strand.here, bodies_few t e.strand.mode σ h))

  text_few : (ls : List (Level (dispatch t))) (u : ℕ) (w : Span) → length (written (dispatch t) (record { levels = ls; units = u }) (text w)) ≤ most_of (record { levels = ls; units = u }) (text w)
  unfolding written total
  text_few [] u w = omega arith
  text_few (l ∷ ls) u w =
      omega (arith, gather_few (text_records (dispatch t) w) (λ (s : HeldStrand ℕ). give_few 34 (receiver s.action s.target) _ (omega arith)) l.strands, length-map l.strands (λ (s : HeldStrand ℕ). s.mode))

  end_few : (ls : List (Level (dispatch t))) (u : ℕ) (w : Span) → length (written (dispatch t) (record { levels = ls; units = u }) (end w)) ≤ most_of (record { levels = ls; units = u }) (end w)
  unfolding written total
  end_few [] u w = omega arith
  end_few (l ∷ ls) u w =
      omega (arith, gather_few (end_records (dispatch t) l.at w) each l.strands, length-map l.strands (λ (s : HeldStrand ℕ). s.mode))
    where
      closing_few : (here : Bool) → length (closing (dispatch t) here) ≤ 1
      closing_few true = omega arith
      closing_few false = omega arith

      each : (s : HeldStrand ℕ) → length (end_records (dispatch t) l.at w s) ≤ 34
      each s = give_few 34 (receiver s.action s.target) _ (omega (arith, closing_few s.here))

  pub written_few : (s : List ℕ) (z : State (dispatch t)) (e : scene.Event) → EventFew e → length (written (dispatch t) z (told t s e)) ≤ most_of z (told t s e)
  written_few s z (scene.start e) h = start_few z (element_of t s e) (element_few t s e h)
  written_few s z (scene.text w) h = text_few z.levels z.units w
  written_few s z (scene.end part at) h = end_few z.levels z.units part
