-- Steps by turns: a step of an accepted table, a scene that is not too long and a coherent session is what its plan says; so many steps; a run.
use Prim.Native.Nat.{ℕ, suc, ◌+◌, ◌*◌, ◌-◌, ◌≤◌, ◌<◌}
use mathlib.Core.Path.{◌≡◌, refl, sym, ap, subst, ◌∙◌}
use mathlib.Core.List.{List, ◌++◌}
use mathlib.Core.Bool.{Bool, true, false, not}
use native.Mathlib.Omega.{arith}
use borrow.Author.Tests.{lt-ltb, ltb-true, ltb-false, eq-eqb, eqb-false, not-true, not-false}
use lib.Dec.{eqb, ltb}
use lib.ListN.{length, take, drop, replicate, length-drop, length-append}
use lib.Seq.{length-take-le}
use Rattle.laws.proofs.Holds.{holds_cond}
use Rattle.table.specs.Table.{header_of, table_of, decode, standard}
use Rattle.table.specs.Index.{index_of}
use Rattle.table.specs.declared.Answer.{Answer}
use Rattle.table.specs.declared.Header.{Header}
use Rattle.table.specs.Judge.{judged, Accepted}
use Rattle.strands.proofs.LevelNumbers.{each_long}
use Rattle.openings.proofs.LevelArrays.{each_zero}
use Rattle.sessions.specs.Sessions.{fresh_of, head_of, session_at}
use Rattle.sessions.specs.Coherence.{coherent}
use Rattle.sessions.specs.Stepping.{plan_of, planned, Step, answered, refused_step, step_of, advance_of, given, run_by, run_of, ran}
use Rattle.sessions.specs.Turns.{TurnReady, LoopReady, advanced_answer, advanced_in}
use Rattle.sessions.specs.Session.{Session}
use Rattle.sessions.specs.declared.Head.{Head}
use Rattle.sessions.specs.declared.Advanced.{Advanced}
use Rattle.sessions.proofs.Sound.{Sound}
use Rattle.sessions.proofs.SoundCoherent.{sound_coherent}
use Rattle.sessions.proofs.CoherentSound.{coherent_sound}
use Rattle.sessions.proofs.SoundStep.{step_kept}
use Rattle.sessions.proofs.JudgedFirst.{table_refused, scene_refused, session_refused, session_goes, step_judged_first}
use Rattle.sessions.proofs.Room.{Roomed, planned_roomed}
use Rattle.sessions.proofs.Parted.{parted}
use Rattle.sessions.proofs.Advancing.{step_as, so_far, further, joined_none, advance_stops, further_none, further_stops, further_goes}

-- ---- a turn
-- where so many steps are after some turns: what is left to do is what was asked
pub record Going (table s : List ℕ) (z₀ : Session) (out₀ : List ℕ) (most : ℕ) (z : Session) (out : List ℕ) (used events records : ℕ) : Type 0 where
  pub used_in : used ≤ length out
  pub same_length : length out ≡ length out₀
  pub counted : 16 * records ≡ used
  pub few : events ≤ most
  pub sound : Sound (decode table) s z
  pub asked : advance_of standard most table s z₀ out₀ ≡ further (most - events) table s (so_far z events records out)

pub going_first : (table s : List ℕ) (z : Session) (out : List ℕ) (most : ℕ) → Sound (decode table) s z → Going table s z out most z out 0 0 0
going_first table s z out most h =
    record {
      used_in = omega arith;
      same_length = refl;
      counted = omega arith;
      few = omega arith;
      sound = h;
      asked = let e : most - 0 ≡ most = omega arith in sym (joined_none z out (advance_of standard (most - 0) table s z out) ∙ ap (λ (n : ℕ). advance_of standard n table s z out) e);
    }

pub going_last : (table s : List ℕ) (z₀ : Session) (out₀ : List ℕ) (most : ℕ) (z : Session) (out : List ℕ) (used events records : ℕ) → Going table s z₀ out₀ most z out used events records
    → most ≤ events → so_far z events records out ≡ advance_of standard most table s z₀ out₀
going_last table s z₀ out₀ most z out used events records g h =
    let e : most - events ≡ 0 = omega arith in
    sym (g.asked ∙ ap (λ (n : ℕ). further n table s (so_far z events records out)) e ∙ further_none table s z events records out)

-- what a turn makes of that: its records have room; where its number is not 0 it is what was asked; else it goes on
pub record Turned (table s : List ℕ) (z₀ : Session) (out₀ : List ℕ) (most : ℕ) (out : List ℕ) (used events records : ℕ) (r : Step) : Type 0 where
  pub room : used + 16 * r.answer.records ≤ length out
  pub stops : (out' : List ℕ) → out' ≡ take used out ++ r.output → (r.answer.number ≡ 0 → ⊥)
      → step_as r.answer.number r.answer.place r.session events records out' ≡ advance_of standard most table s z₀ out₀
  pub goes : (out' : List ℕ) → out' ≡ take used out ++ r.output → r.answer.number ≡ 0
      → Going table s z₀ out₀ most r.session out' (used + 16 * r.answer.records) (events + 1) (records + r.answer.records)

module _ (table s : List ℕ) (z₀ : Session) (out₀ : List ℕ) (most : ℕ) (z : Session) (out : List ℕ) (used events records : ℕ) (g : Going table s z₀ out₀ most z out used events records)
    (more : events < most) (accepted : Accepted table ≡ true) (short : length s ≤ 16777215) (lent : List ℕ) (l : lent ≡ drop used out)
    (r : Step) (q : r ≡ planned (plan_of (decode table) s z) z lent) where
  turn_step : step_of standard table s z (drop (16 * records) out) ≡ r
  turn_step =
      sym (q ∙ ap (planned (plan_of (decode table) s z) z) (l ∙ ap (λ (n : ℕ). drop n out) (sym g.counted)) ∙ session_goes table s z (λ (n p : ℕ). refused_step n p z (drop (16 * records) out)) (planned (plan_of (decode table) s z) z (drop (16 * records) out)) accepted short (sound_coherent (decode table) s z g.sound) ∙ step_judged_first table s z (drop (16 * records) out))

  abbrev left : ℕ
  left = most - (events + 1)

  turn_left : most - events ≡ suc left
  turn_left = omega arith

  turn_inside : 16 * records ≤ length out
  turn_inside = omega (arith, g.counted, g.used_in)

  turn_roomed : Roomed lent r
  turn_roomed = subst (Roomed lent) (sym q) (planned_roomed (plan_of (decode table) s z) z lent)

  turn_room : used + 16 * r.answer.records ≤ length out
  turn_room = omega (arith, turn_roomed.room, ap length l, length-drop used out, g.used_in)

  turn_asked : advance_of standard most table s z₀ out₀ ≡ further (suc left) table s (so_far z events records out)
  turn_asked = g.asked ∙ ap (λ (n : ℕ). further n table s (so_far z events records out)) turn_left

  module _ (out' : List ℕ) (whole : out' ≡ take used out ++ r.output) where
    turn_out : out' ≡ take (16 * records) out ++ r.output
    turn_out = whole ∙ ap (λ (n : ℕ). take n out ++ r.output) (sym g.counted)

    turn_length : length out' ≡ length out
    turn_length =
        omega (arith, ap length whole, length-append (take used out) r.output, length-take-le used out g.used_in, turn_roomed.same, ap length l, length-drop used out, g.used_in)

    turn_stops : (r.answer.number ≡ 0 → ⊥) → step_as r.answer.number r.answer.place r.session events records out' ≡ advance_of standard most table s z₀ out₀
    turn_stops n = rw turn_out (sym (turn_asked ∙ further_stops left table s z events records out turn_inside r turn_step n))

    turn_goes : r.answer.number ≡ 0 → Going table s z₀ out₀ most r.session out' (used + 16 * r.answer.records) (events + 1) (records + r.answer.records)
    turn_goes e =
        record {
          used_in = omega (arith, turn_room, turn_length);
          same_length = turn_length ∙ g.same_length;
          counted = omega (arith, g.counted);
          few = omega arith;
          sound = subst (λ (x : Step). Sound (decode table) s x.session) turn_step (step_kept table accepted s z g.sound (drop (16 * records) out)).sound;
          asked = rw turn_out (turn_asked ∙ further_goes left table s z events records out turn_inside r turn_step e);
        }

  pub going_turned : Turned table s z₀ out₀ most out used events records r
  going_turned = record { room = turn_room; stops = turn_stops; goes = turn_goes }

-- ---- before the first turn
pub loop_sound : (table index s known : List ℕ) (head : Head) (levels bindings : List ℕ) → LoopReady table index s known (session_at head levels bindings) → Sound (decode table) s (session_at head levels bindings)
loop_sound table index s known head levels bindings r =
    coherent_sound (decode table) s (session_at head levels bindings) (each_long 3 0 levels) r.beside.bindings_long (each_long 4 3 levels) (each_long 16 8 levels) r.ready.coherent'

-- ---- a first step that is refused
-- any advance by some step is it
module _ (most : ℕ) (some : 1 ≤ most) (table s : List ℕ) (z : Session) (out : List ℕ) where
  first_stops : ((step_of standard table s z out).answer.number ≡ 0 → ⊥) → advance_of standard most table s z out ≡ step_of standard table s z out
  first_stops k =
      let one : most ≡ suc (most - 1) = omega arith in
      ap (λ (i : ℕ). advance_of standard i table s z out) one ∙ advance_stops (most - 1) table s z out (step_of standard table s z out) refl k

  first_refused : (n p : ℕ) → (n ≡ 0 → ⊥) → refused_step n p z out ≡ step_of standard table s z out → refused_step n p z out ≡ advance_of standard most table s z out
  first_refused n p k e = e ∙ sym (first_stops (λ i. k (ap (λ (x : Step). x.answer.number) e ∙ i)))

-- ---- behind judge and 7
module _ (table s : List ℕ) (header : Header) (z : Session) (head-is : header ≡ header_of table) (accepted : Accepted table ≡ true) (short : length s ≤ 16777215)
    (r : Bool) (q : r ≡ coherent (table_of table header) s z) where
  pub judged_coherent : r ≡ coherent (decode table) s z
  judged_coherent = q ∙ ap (λ (h : Header). coherent (table_of table h) s z) head-is

  pub from_refused : (most : ℕ) (out : List ℕ) → 1 ≤ most → not r ≡ true → refused_step 20 0 z out ≡ advance_of standard most table s z out
  from_refused most out m n =
      first_refused most m table s z out 20 0 (λ e. absurd (omega arith)) (session_refused table s z (λ (n p : ℕ). refused_step n p z out) (planned (plan_of (decode table) s z) z out) accepted short (sym judged_coherent ∙ not-true r n) ∙ step_judged_first table s z out)

  pub from_ready : (index : List ℕ) → not r ≡ false → index ≡ index_of table header → TurnReady table header index s z
  from_ready index n e = record { accepted = accepted; header_is = head-is; index_is = e; short = short; coherent' = sym judged_coherent ∙ not-false r n }

-- ---- before that
module _ (table s : List ℕ) (a : Answer) (q : a ≡ judged table) where
  pub judged_zero : (a.number ≡ 0 → ⊥) → (judged table).number ≡ 0 → ⊥
  judged_zero n e = n (ap (λ (x : Answer). x.number) q ∙ e)

  pub number_zero : a.number ≡ 0 → (judged table).number ≡ 0
  number_zero e = sym (ap (λ (x : Answer). x.number) q) ∙ e

  pub then_accepted : a.number ≡ 0 → Accepted table ≡ true
  then_accepted e = eq-eqb (judged table).number 0 (number_zero e)

  module _ (most : ℕ) (some : 1 ≤ most) (z : Session) (out : List ℕ) (b : Answer) where
    pub advance_refused : (a.number ≡ 0 → ⊥) → b ≡ answered a.number a.place 0 0 → given b z out ≡ advance_of standard most table s z out
    advance_refused n e =
        ap (λ (x : Answer). given x z out) (e ∙ ap (λ (x : Answer). answered x.number x.place 0 0) q)
        ∙ first_refused most some table s z out (judged table).number (judged table).place (judged_zero n) (table_refused table s z (λ (n p : ℕ). refused_step n p z out) (planned (plan_of (decode table) s z) z out) (judged_zero n) ∙ step_judged_first table s z out)

    pub advance_too_long : a.number ≡ 0 → 16777215 < length s → b ≡ answered 7 0 0 0 → given b z out ≡ advance_of standard most table s z out
    advance_too_long e h f =
        ap (λ (x : Answer). given x z out) f
        ∙ first_refused most some table s z out 7 0 (λ e. absurd (omega arith)) (scene_refused table s z (λ (n p : ℕ). refused_step n p z out) (planned (plan_of (decode table) s z) z out) (number_zero e) h ∙ step_judged_first table s z out)

pub advance_none : (table s : List ℕ) (z : Session) (out : List ℕ) (most : ℕ) (b : Answer) → most ≡ 0 → b ≡ answered 0 z.place 0 0 → given b z out ≡ advance_of standard most table s z out
unfolding advance_of
advance_none table s z out most b m e = ap (λ (x : Answer). given x z out) e ∙ ap (λ (n : ℕ). advance_of standard n table s z out) (sym m)

-- no step: numbers and arrays as they were
pub none_advanced : (r : Advanced) (head : Head) (levels bindings out : List ℕ) (x : Step) → r.head ≡ head
    → given (advanced_answer r) (session_at head levels bindings) out ≡ x
    → advanced_in r levels bindings out ≡ x
none_advanced r head levels bindings out x e q =
    ap (λ (h : Head). given (advanced_answer r) (session_at h levels bindings) out) e ∙ q

-- ---- a run
too_long_stops : (table s : List ℕ) (z : Session) (out : List ℕ) → 16777215 < length s → (step_of standard table s z out).answer.number ≡ 0 → ⊥
unfolding step_of
too_long_stops table s z out h =
    rw (lt-ltb 16777215 (length s) h)
    (holds_cond (λ (r : Step). r.answer.number ≡ 0 → ⊥) (not (eqb (judged table).number 0)) (λ n. eqb-false (judged table).number 0 (not-true (eqb (judged table).number 0) n)) (λ _ e. absurd (omega arith)))

-- arrays of zeros are a fresh session's
pub fresh_arrays : session_at (head_of fresh_of) (replicate 1536 0) (replicate 256 0) ≡ fresh_of
fresh_arrays =
    sym
    (parted (head_of fresh_of) (replicate 1536 0) (replicate 192 0) (replicate 256 0) (replicate 256 0) (replicate 1024 0)
    (sym (each_zero 3 0 1536)) (sym (each_zero 4 3 1536)) (sym (each_zero 16 8 1536)))

-- a scene that is too long is refused by the first step, so that any number of them will do
pub run_within : (table s out : List ℕ) (most : ℕ) → 1 ≤ most → (length s ≤ 16777215 → most ≡ 2 * length s + 2) → (head : Head) → head ≡ head_of fresh_of → (r : Advanced) (a : Answer) (levels bindings out' : List ℕ)
    → a ≡ advanced_answer r → advanced_in r levels bindings out' ≡ advance_of standard most table s (session_at head (replicate 1536 0) (replicate 256 0)) out → ran a out' ≡ run_of standard table s out
unfolding run_of
run_within table s out most some enough head fresh r a levels bindings out' ea q =
    ap (λ (x : Answer). ran x out') ea
    ∙ ap run_by
    (q
    ∙ ap (λ (h : Head). advance_of standard most table s (session_at h (replicate 1536 0) (replicate 256 0)) out) fresh
    ∙ ap (λ (x : Session). advance_of standard most table s x out) fresh_arrays
    ∙ by (ltb 16777215 (length s)) refl)
  where
    by : (b : Bool) → ltb 16777215 (length s) ≡ b → advance_of standard most table s fresh_of out ≡ advance_of standard (2 * length s + 2) table s fresh_of out
    by true e =
        let stops = too_long_stops table s fresh_of out (ltb-true 16777215 (length s) e) in
        first_stops most some table s fresh_of out stops ∙ sym (first_stops (2 * length s + 2) (omega arith) table s fresh_of out stops)
    by false e = ap (λ (n : ℕ). advance_of standard n table s fresh_of out) (enough (ltb-false 16777215 (length s) e))
