-- The events at which a unit opens and has its pieces; the attribute units of an element; the choices of its strands.
use mathlib.Core.Path.{◌≡◌, refl, sym, ap, ◌∙◌, subst}
use mathlib.Core.Bool.{true, false, false≢true}
use mathlib.Core.List.{List, [], ◌∷◌, ◌++◌, map, tail}
use Prim.Native.Nat.{ℕ, suc, ◌≤◌, ◌<◌}
use native.Mathlib.Omega.{arith}
use Rattle.laws.specs.Gather.{gather}
use Rattle.model.specs.Theory.{Attach, Unwrap, Validate, Action, Rule, Piece, Theory}
use Rattle.model.specs.Sections.{AttributeSection, Tags, Content}
use Rattle.model.specs.Model.{attribute_unit, WholeUnit, attribute_units_from, virtual_pieces, attribute_pieces, Strand, Assigned, along, enter, attributes_of}
use Rattle.model.proofs.Lists.{map_gather, All, Distinct, all_weaken, all_gather, every, gather_distinct, keys_from, from_all}
use Rattle.model.proofs.Events.{Within, within_widen, within_marked, at_before, at_behind}
use Rattle.model.proofs.Order.{Rising, rising_from, rising_marked}
use Rattle.model.proofs.Keys.{event_of, choices_of, of_attributes, attribute_keys_distinct, choices_bear, choices_distinct}
use Rattle.model.proofs.Shown.{Other, ForTarget, Nothing, Elsewhere}
use Rattle.model.specs.Units.{OpensOnce}
use Rattle.model.proofs.Opens.{held_bodies, marked_pieces}

-- A unit that opens, and has its pieces in their order, at the events from lo on and before hi.
pub record Spans {B : Type 0} (lo hi : ℕ) (u : WholeUnit B) : Type 0 where
  pub from : lo ≤ event_of u.key
  pub before : event_of u.key < hi
  pub opens_once : OpensOnce (map (λ p. p.piece) u.pieces)
  pub within : Within lo hi u.pieces
  pub rising : Rising lo u.pieces

module _ {B : Type 0} where
  pub spans_widen : (lo hi lo' hi' : ℕ) → lo' ≤ lo → hi ≤ hi' → (u : WholeUnit B) → Spans lo hi u → Spans lo' hi' u
  spans_widen lo hi lo' hi' a b u s = record {
    from = omega (arith, s.from);
    before = omega (arith, s.before);
    opens_once = s.opens_once;
    within = within_widen lo hi lo' hi' a b u.pieces s.within;
    rising = rising_from lo lo' a u.pieces s.rising;
  }

  -- An element unit that opens before event i.
  abbrev pub Old : ℕ → WholeUnit B → Type 0
  Old i v = (event_of v.key < i) × (of_attributes v.key ≡ false)

  abbrev pub choices_on : Strand B → List ℕ
  choices_on s = s.choices

  -- What holds of every unit of an event.
  abbrev pub Each : (WholeUnit B → Type 0) → Assigned B → Type 0
  Each P x = All P x.attributes × All (ForTarget P) x.strands

  pub old_later : (i j : ℕ) → i ≤ j → (ss : List (Strand B)) → All (ForTarget (Old i)) ss → All (ForTarget (Old j)) ss
  old_later i j l = all_weaken (ForTarget (Old i)) (ForTarget (Old j)) (λ s h v p. (omega (arith, (h v p).0), (h v p).1))

  pub old_other : (i : ℕ) (u : WholeUnit B) → i ≤ event_of u.key → (ss : List (Strand B)) → All (ForTarget (Old i)) ss → All (ForTarget (Other u)) ss
  old_other i u l = all_weaken (ForTarget (Old i)) (ForTarget (Other u)) (λ s h v p x. omega (arith, (h v p).0, ap event_of x))

  pub attribute_other : (i : ℕ) (u : WholeUnit B) → of_attributes u.key ≡ true → (ss : List (Strand B)) → All (ForTarget (Old i)) ss → All (ForTarget (Other u)) ss
  attribute_other i u a = all_weaken (ForTarget (Old i)) (ForTarget (Other u)) (λ s h v p x. false≢true (sym (h v p).1 ∙ sym (ap of_attributes x) ∙ a))

  pub spans_before : (lo hi : ℕ) (u : WholeUnit B) → Spans lo hi u → (i n : ℕ) → n ≤ lo → Elsewhere u i n × Nothing u i n
  spans_before lo hi u s i n l = (λ k a b x. omega (arith, s.from, x), λ k a b. at_before k lo hi u.pieces (omega arith) s.within)

  pub spans_behind : (lo hi : ℕ) (u : WholeUnit B) → Spans lo hi u → (i n : ℕ) → hi ≤ i → Elsewhere u i n × Nothing u i n
  spans_behind lo hi u s i n l = (λ k a b x. omega (arith, s.before, x), λ k a b. at_behind k lo hi u.pieces (omega arith) s.within)

  -- Attribute units.
  attributes_span : (i : ℕ) (cs : List ℕ) (j : ℕ) (xs : List (List (Piece B))) → All OpensOnce xs → All (Spans i (suc i)) (attribute_units_from i cs j xs)
  attributes_span i cs j [] h = tt
  attributes_span i cs j (x ∷ xs) h = (record { from = omega arith; before = omega arith; opens_once = subst OpensOnce (sym (marked_pieces i x)) h.0; within = within_marked i (suc i) i (omega arith) (omega arith) x; rising = rising_marked i x }, attributes_span i cs (suc j) xs h.1)

  attributes_keys : (i : ℕ) (cs : List ℕ) (j : ℕ) (xs : List (List (Piece B))) → map (λ v. v.key) (attribute_units_from i cs j xs) ≡ keys_from (attribute_unit i cs) j xs
  attributes_keys i cs j [] = refl
  attributes_keys i cs j (x ∷ xs) = rw (attributes_keys i cs (suc j) xs)

module _ (Θ : Theory) where
  attributes_begin : (m : ℕ) (σ : Θ.StartInfo) (cs : List (AttributeSection Θ)) → All OpensOnce (attribute_pieces Θ m σ cs)
  attributes_begin m σ cs = all_gather (OpensOnce {B = Θ.Body}) _ cs (every (λ c. all_gather (OpensOnce {B = Θ.Body}) _ (Θ.attribute_rules m c.first) (every (λ q. go c q.schema q.action) (Θ.attribute_rules m c.first))) cs)
    where
      go : (c : AttributeSection Θ) (schema : ℕ) (a : Action) → All (OpensOnce {B = Θ.Body}) (elim a [ Attach ↦ [] | Unwrap ↦ [] | Validate ↦ virtual_pieces Θ σ c schema ∷ [] ])
      go c schema Attach = tt
      go c schema Unwrap = tt
      go c schema Validate = (held_bodies (Θ.virtual_start ∷ gather Θ.attribute_bodies (c.first ∷ c.others) ++ (Θ.virtual_end ∷ Θ.close_body ∷ [])), tt)

  pub element_attributes_span : (e : Tags Θ) (ss : List (Strand Θ.Body)) → All (Spans e.start_at (suc e.start_at)) (attributes_of Θ e ss)
  element_attributes_span e ss = all_gather (Spans e.start_at (suc e.start_at)) _ ss
      (every (λ s. attributes_span e.start_at s.choices 0 (attribute_pieces Θ s.mode e.start e.sections) (attributes_begin s.mode e.start e.sections)) ss)

  pub attributes_distinct : (e : Tags Θ) (ss : List (Strand Θ.Body)) → Distinct (map choices_on ss) → Distinct (map (λ v. v.key) (attributes_of Θ e ss))
  attributes_distinct e ss d =
      let pieces : Strand Θ.Body → List (List (Piece Θ.Body)) = λ s. attribute_pieces Θ s.mode e.start e.sections in
      rw (map_gather (λ (v : WholeUnit Θ.Body). v.key) (λ s. attribute_units_from e.start_at s.choices 0 (pieces s)) ss)
      (gather_distinct (λ s. map (λ v. v.key) (attribute_units_from e.start_at s.choices 0 (pieces s))) choices_on choices_of
      (λ s. rw (attributes_keys e.start_at s.choices 0 (pieces s)) (from_all (attribute_unit e.start_at s.choices) (λ k. choices_of k ≡ s.choices) (λ j. refl) 0 (pieces s)))
      (λ s. rw (attributes_keys e.start_at s.choices 0 (pieces s)) (attribute_keys_distinct e.start_at s.choices (pieces s))) ss d)

  -- The strands of a section differ in their choices.
  along_choices : (e : Tags Θ) (inner : Content Θ) (s : Strand Θ.Body) (j : ℕ) (qs : List Rule) → map choices_on (along Θ e inner s j qs) ≡ keys_from (λ n. n ∷ s.choices) j qs
  along_choices e inner s j [] = refl
  along_choices e inner s j (q ∷ qs) = rw (along_choices e inner s (suc j) qs)

  pub enter_differs : (e : Tags Θ) (inner : Content Θ) (ss : List (Strand Θ.Body)) → Distinct (map choices_on ss) → Distinct (map choices_on (enter Θ e inner ss))
  enter_differs e inner ss d = rw (map_gather choices_on (λ s. along Θ e inner s 0 (Θ.element_rules s.mode e.start)) ss)
      (gather_distinct (λ s. map choices_on (along Θ e inner s 0 (Θ.element_rules s.mode e.start))) choices_on (λ c. tail c)
      (λ s. rw (along_choices e inner s 0 (Θ.element_rules s.mode e.start)) (choices_bear s.choices (Θ.element_rules s.mode e.start)))
      (λ s. rw (along_choices e inner s 0 (Θ.element_rules s.mode e.start)) (choices_distinct s.choices (Θ.element_rules s.mode e.start))) ss d)
