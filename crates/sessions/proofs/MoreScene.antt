-- More bytes behind a scene change nothing of a sound session: what its numbers mean, that it is sound, what an event tells, and what a step plans.
--     state_more, sound_more       the session
--     element_more, told_more      an event
--     plan_kept                    every plan but 1 and 9
--     plan_more, refused_more      the same of a plan that is known
use Prim.Native.Nat.{ℕ, zero, suc, ◌<◌}
use mathlib.Core.Path.{◌≡◌, refl, ap₂, subst, ◌∙◌}
use mathlib.Core.List.{List, [], ◌∷◌, ◌++◌, map}
use native.Mathlib.Omega.{arith}
use lib.ListN.{length-append}
use Rattle.laws.specs.Members.{All}
use Rattle.laws.proofs.Elementwise.{each_map}
use Rattle.laws.proofs.Kept.{Kept}
use Rattle.table.specs.Table.{Table}
use Rattle.reader.specs.Namespaces as scene
use Rattle.reader.specs.Events as reading
use Rattle.reader.specs.Scope.{name_in}
use Rattle.reader.specs.Held.{SpanHeld}
use Rattle.reader.proofs.TagMeaning.{NamespaceHeld, AttributeHeld}
use Rattle.reader.proofs.Held.{StartHeld, EventHeld, event_inside}
use Rattle.reader.proofs.MoreBytes.{bytes_more, part_more, held_more}
use Rattle.reader.proofs.NextStable.{next_stable, refusal_stable}
use Rattle.model.specs.Theory.{Record}
use Rattle.model.specs.Elements.{space_of, attribute_of, element_of}
use Rattle.model.specs.Records.{Body}
use Rattle.model.specs.Stream.{Level}
use Rattle.model.specs.Dispatch.{dispatch, told}
use Rattle.sessions.specs.Sessions.{uri_in, level_uri, level_in, levels_in, reader_of, state_of}
use Rattle.sessions.specs.Stepping.{Plan, refused, finished, event, start_plan, event_plan, plan_by, plan_of}
use Rattle.sessions.specs.Session.{Session}
use Rattle.sessions.proofs.Sound.{LevelSound, Sound}
use Rattle.sessions.proofs.SoundCoherent.{sound_level, sound_name}

map_same : {A B : Type 0} (P : A → Type 0) (f g : A → B) → ((x : A) → P x → f x ≡ g x) → (l : List A) → All P l → map f l ≡ map g l
map_same P f g e [] h = refl
map_same {A} {B} P f g e (x ∷ l) h = ap₂ (λ (y : B) (r : List B). y ∷ r) (e x h.0) (map_same P f g e l h.1)

-- the plans that may change: 1, and 9
abbrev pub OpenPlan : Plan → Type 0
OpenPlan (refused n p) = n ≡ 1
OpenPlan (finished p) = Unit
OpenPlan (event p rs z) = ⊥

module _ (t : Table) (s r : List ℕ) where
  -- ---- an event
  space_more : (n : scene.Namespace) → NamespaceHeld s n → space_of t (s ++ r) n ≡ space_of t s n
  unfolding space_of
  space_more scene.nothing h = refl
  space_more scene.xml h = refl
  space_more (scene.declared w) h = rw (bytes_more s r w h)

  attribute_more : (a : scene.ReadAttribute) → AttributeHeld s a → attribute_of t (s ++ r) a ≡ attribute_of t s a
  unfolding attribute_of
  attribute_more a h = rw (space_more a.namespace h.namespace)

  pub element_more : (e : reading.Start) → StartHeld s e → element_of t (s ++ r) e ≡ element_of t s e
  unfolding element_of
  element_more e h =
      rw (space_more e.namespace h.namespace, map_same (AttributeHeld s) (attribute_of t (s ++ r)) (attribute_of t s) attribute_more e.attributes h.attributes)

  pub told_more : (e : reading.Event) → EventHeld s e → told t (s ++ r) e ≡ told t s e
  told_more (reading.start e) h = rw (element_more e h)
  told_more (reading.text w) h = refl
  told_more (reading.end part at) h = refl

  -- ---- the session
  level_more : (z : Session) (k : ℕ) → SpanHeld s (name_in z.scope.levels k) → SpanHeld s (uri_in z k) → level_in t (s ++ r) z k ≡ level_in t s z k
  unfolding level_in level_uri
  level_more z k n u = rw (part_more s r (name_in z.scope.levels k) n, bytes_more s r (uri_in z k) u)

  levels_more : (z : Session) (depth : ℕ) → ((k : ℕ) → k < depth → SpanHeld s (name_in z.scope.levels k) × SpanHeld s (uri_in z k)) → levels_in t (s ++ r) z depth ≡ levels_in t s z depth
  unfolding levels_in
  levels_more z zero h = refl
  levels_more z (suc d) h =
      let here = h d (omega arith) in
      rw (level_more z d here.0 here.1, levels_more z d (λ k l. h k (omega arith)))

  more_sound : (units : ℕ) (l : Level (dispatch t)) → LevelSound t s units l → LevelSound t (s ++ r) units l
  more_sound units l h =
      record {
        some_strand = h.some_strand;
        few_strands = h.few_strands;
        class_in_lem = h.class_in_lem;
        uri_inside = simp length-append (omega arith);
        strands = h.strands;
      }

  module _ (z : Session) (h : Sound t s z) where
    same_levels : levels_in t (s ++ r) z z.scope.depth ≡ levels_in t s z z.scope.depth
    unfolding level_in
    same_levels = levels_more z z.scope.depth (λ k l. ((sound_name t s z h k l).1.inside, (sound_level t s z h k l).uri_inside))

    pub state_more : state_of t (s ++ r) z ≡ state_of t s z
    state_more = rw same_levels

    pub sound_more : Sound t (s ++ r) z
    sound_more =
        record {
          fits = h.fits;
          held = held_more s r (reader_of z) h.held;
          levels = rw same_levels (each_map (LevelSound t s z.units) (LevelSound t (s ++ r) z.units) (more_sound z.units) (levels_in t s z z.scope.depth) h.levels);
          few_units = h.few_units;
        }

    -- ---- a plan
    event_more : (e : reading.Event) (z' : reading.ReaderState) → EventHeld s e → event_plan t (s ++ r) z e z' ≡ event_plan t s z e z'
    unfolding start_plan
    event_more (reading.start e) z' k = rw (element_more e k, same_levels)
    event_more (reading.text w) z' k = rw same_levels
    event_more (reading.end part at) z' k = rw same_levels

    pub plan_kept : Kept OpenPlan (plan_of t s z) (plan_of t (s ++ r) z)
    unfolding plan_of
    plan_kept = by (reading.next s (reader_of z)) refl
      where
        by : (x : reading.Next) → reading.next s (reader_of z) ≡ x → Kept OpenPlan (plan_by t s z x) (plan_by t (s ++ r) z (reading.next (s ++ r) (reader_of z)))
        by (reading.event e z') q n =
            rw (next_stable s r (reader_of z) h.held e z' q) (event_more e z' (event_inside s (reader_of z) h.held e z' q))
        by (reading.refusal m p) q n = rw (refusal_stable s r (reader_of z) h.held m p q n)
        by (reading.finished p) q n = absurd (n tt)

    pub plan_more : (p : ℕ) (rs : List (Record Body ℕ)) (z'' : Session) → plan_of t s z ≡ event p rs z'' → plan_of t (s ++ r) z ≡ event p rs z''
    plan_more p rs z'' q = plan_kept (λ c. subst OpenPlan q c) ∙ q

    -- every number but 1
    pub refused_more : (n p : ℕ) → plan_of t s z ≡ refused n p → (n ≡ 1 → ⊥) → plan_of t (s ++ r) z ≡ refused n p
    refused_more n p q k = plan_kept (λ c. k (subst OpenPlan q c)) ∙ q
