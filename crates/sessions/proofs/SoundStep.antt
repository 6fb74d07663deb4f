-- A step of a sound session gives a sound session, and number 20 is never given of one.
--     sound_step           the session behind an event
--     step_kept            whatever a step hands back
use Prim.Native.Nat.{ℕ, ◌+◌, ◌*◌, ◌≤◌}
use mathlib.Core.Path.{◌≡◌, refl, sym, ap, subst}
use mathlib.Core.List.{List, [], ◌∷◌, tail}
use mathlib.Core.Bool.{Bool, true, false, cond}
use native.Mathlib.Omega.{arith}
use lib.ListN.{length}
use borrow.Author.Tests.{ltb-false}
use lib.Dec.{leb, ltb}
use Rattle.laws.specs.Members.{All}
use Rattle.laws.proofs.Elementwise.{each_map}
use Rattle.laws.proofs.Holds.{holds_cond}
use Rattle.table.specs.Table.{Table, decode, standard}
use Rattle.table.specs.Judge.{Accepted}
use Rattle.reader.specs.Events as reading
use Rattle.reader.specs.Held.{Held}
use Rattle.reader.proofs.Held.{StartHeld, EventHeld, event_inside, held_next, numbered}
use Rattle.model.specs.Theory.{Record}
use Rattle.model.specs.Tree.{start}
use Rattle.model.specs.Elements.{element_of}
use Rattle.model.specs.Records.{Body, kept_of}
use Rattle.model.specs.Stream.{Level, State, entries_at, after}
use Rattle.model.specs.Dispatch.{dispatch, told}
use Rattle.model.proofs.Steps.{below_more}
use Rattle.attributes.proofs.Sorted.{uri_held}
use Rattle.sessions.specs.Sessions.{reader_of, state_of}
use Rattle.reader.specs.declared.Binding.{Binding}
use Rattle.sessions.specs.Stepping.{Plan, refused, finished, event, start_plan, plan_by, plan_of, Step, planned, longest, step_of}
use Rattle.sessions.specs.Session.{Session}
use Rattle.sessions.proofs.Sound.{StrandSound, LevelSound, Sound}
use Rattle.sessions.proofs.Spaces.{class_bounds}
use Rattle.sessions.proofs.SoundCoherent.{sound_coherent}
use Rattle.sessions.proofs.Followed.{followed}
use Rattle.sessions.proofs.Behind.{OpenLimits, Limits, behind}
use Rattle.sessions.proofs.NewStrands.{new_strands, new_length, new_some, new_strands_lem}

-- ---- more units
level_units : (t : Table) (s : List ℕ) (u v : ℕ) → u ≤ v → (l : Level (dispatch t)) → LevelSound t s u l → LevelSound t s v l
level_units t s u v le l h =
    record {
      some_strand = h.some_strand;
      few_strands = h.few_strands;
      class_in_lem = h.class_in_lem;
      uri_inside = h.uri_inside;
      strands =
          each_map (StrandSound t u) (StrandSound t v) (λ r k. record { mode_in = k.mode_in; below = below_more u v r.target le k.below; aims = k.aims }) l.strands h.strands;
    }

-- ---- the levels behind an event
-- a start that is planned has at most 16 strands
few_strands : (t : Table) (s : List ℕ) (z : Session) (e : reading.Start) (os : List reading.Open) → OpenLimits t s z e os → length (entries_at (dispatch t) (state_of t s z).levels (element_of t s e)) ≤ 16
few_strands t s z e [] l = absurd l
few_strands t s z e (o ∷ os) l = l.strands

module _ (table : List ℕ) (accepted : Accepted table ≡ true) (s : List ℕ) where
  level_new : (z : State (dispatch (decode table))) → All (LevelSound (decode table) s z.units) z.levels → (e : reading.Start) → StartHeld s e → length (entries_at (dispatch (decode table)) z.levels (element_of (decode table) s e)) ≤ 16
      → LevelSound (decode table) s (after (dispatch (decode table)) z (start (element_of (decode table) s e))).units (record { at = kept_of (element_of (decode table) s e); strands = new_strands (decode table) z (element_of (decode table) s e) })
  unfolding element_of
  level_new z h e k few =
      record {
        some_strand = new_some table accepted s z (element_of (decode table) s e) h;
        few_strands = rw (new_length (decode table) z (element_of (decode table) s e)) few;
        class_in_lem = class_bounds table accepted s e.namespace;
        uri_inside = uri_held (decode table) s e.namespace k.namespace;
        strands = new_strands_lem table accepted s z (element_of (decode table) s e) h;
      }

  levels_after : (z : Session) → Sound (decode table) s z → (e : reading.Event) (z' : reading.ReaderState) → EventHeld s e → Limits (decode table) s z e z'
      → All (LevelSound (decode table) s (after (dispatch (decode table)) (state_of (decode table) s z) (told (decode table) s e)).units) (after (dispatch (decode table)) (state_of (decode table) s z) (told (decode table) s e)).levels
  unfolding after
  levels_after z h (reading.start e) z' k l =
      let state = state_of (decode table) s z in (
        level_new state h.levels e k (few_strands (decode table) s z e z'.opened l),
        each_map _ _ (level_units (decode table) s z.units _ (omega arith)) state.levels h.levels,
      )
  levels_after z h (reading.text w) z' k l = h.levels
  levels_after z h (reading.end part at) z' k l = by (state_of (decode table) s z).levels h.levels
    where
      by : (ls : List (Level (dispatch (decode table)))) → All (LevelSound (decode table) s z.units) ls → All (LevelSound (decode table) s z.units) (tail ls)
      by [] c = tt
      by (x ∷ ls) c = c.1

-- ---- 0 and 20 are no plan's numbers
abbrev pub Numbered : Plan → Type 0
Numbered (refused n p) = (n ≡ 20 → ⊥) × (1 ≤ n)
Numbered (finished p) = Unit
Numbered (event p rs z) = Unit

limits_not : (a b c d : Bool) (at : ℕ) (x : Plan) → Numbered x → Numbered (cond a (refused 21 at) (cond b (refused 22 at) (cond c (refused 23 at) (cond d (refused 24 at) x))))
limits_not true b c d at x h = (omega arith, omega arith)
limits_not false true c d at x h = (omega arith, omega arith)
limits_not false false true d at x h = (omega arith, omega arith)
limits_not false false false true at x h = (omega arith, omega arith)
limits_not false false false false at x h = h

module _ (t : Table) (s : List ℕ) (z : Session) where
  start_not : (e : reading.Start) (own : List Binding) (place : ℕ) → Numbered (start_plan t s z e own place)
  unfolding start_plan
  start_not e own place =
      limits_not (leb 64 z.scope.depth) (ltb 64 (z.scope.bound + length own)) (ltb 16 (length (entries_at (dispatch t) (state_of t s z).levels (element_of t s e))))
      (ltb 65536 (after (dispatch t) (state_of t s z) (start (element_of t s e))).units) e.at (event _ _ _) tt

  pub plan_not : Held s (reader_of z) → Numbered (plan_of t s z)
  unfolding plan_of
  plan_not h = by (reading.next s (reader_of z)) refl
    where
      by : (x : reading.Next) → reading.next s (reader_of z) ≡ x → Numbered (plan_by t s z x)
      by (reading.event (reading.start e) z') q =
          let f = followed s (reader_of z) h (reading.start e) z' q in
          rw (ap (λ (y : reading.ReaderState). y.opened) f.state) (start_not e f.own z'.place)
      by (reading.event (reading.text w) z') q = tt
      by (reading.event (reading.end part at) z') q = tt
      by (reading.refusal n p) q = let k = numbered s (reader_of z) h n p q in (λ e. omega (arith, k.few), k.some)
      by (reading.finished p) q = tt

-- ---- a step
-- what a step hands back: not number 20, and a sound session
pub record StepKept (t : Table) (s : List ℕ) (r : Step) : Type 0 where
  pub not_20 : r.answer.number ≡ 20 → ⊥
  pub sound : Sound t s r.session

module _ (table : List ℕ) (accepted : Accepted table ≡ true) (s : List ℕ) (z : Session) (h : Sound (decode table) s z) where
  pub sound_step : length s ≤ 16777215 → (p : ℕ) (rs : List (Record Body ℕ)) (z'' : Session) → plan_of (decode table) s z ≡ event p rs z'' → Sound (decode table) s z''
  sound_step short p rs z'' q =
      let b = behind table accepted s short z h p rs z'' q in
      record {
        fits = b.fits;
        held = rw b.reader (held_next s (reader_of z) h.held b.happened b.state b.read);
        levels =
            subst (λ (x : State (dispatch (decode table))). All (LevelSound (decode table) s x.units) x.levels) (sym b.stream)
            (levels_after table accepted s z h b.happened b.state (event_inside s (reader_of z) h.held b.happened b.state b.read) b.limits);
        few_units = b.few_units;
      }

  planned_kept : length s ≤ 16777215 → (out : List ℕ) (x : Plan) → plan_of (decode table) s z ≡ x → Numbered x → StepKept (decode table) s (planned x z out)
  planned_kept short out (refused n p) q k = record { not_20 = k.0; sound = h }
  planned_kept short out (finished p) q k = record { not_20 = omega arith; sound = h }
  planned_kept short out (event p rs z'') q k =
      holds_cond (StepKept (decode table) s) (ltb (length out) (16 * length rs)) (λ e. record { not_20 = omega arith; sound = h })
      (λ e. record { not_20 = omega arith; sound = sound_step short p rs z'' q })

  pub step_kept : (out : List ℕ) → StepKept (decode table) s (step_of standard table s z out)
  unfolding step_of
  step_kept out =
      rw (accepted, sound_coherent (decode table) s z h)
      (holds_cond (StepKept (decode table) s) (ltb longest (length s)) (λ e. record { not_20 = omega arith; sound = h })
      (λ e. planned_kept (ltb-false longest (length s) e) out (plan_of (decode table) s z) refl (plan_not (decode table) s z h.held)))
