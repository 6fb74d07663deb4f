-- A session is what it holds: sessions of the session type that hold the same go on alike, and hold the same behind each step.
--     same_behind      one step
--     same_advance     any number of steps
use Prim.Native.Nat.{ℕ, zero, suc, ◌+◌, ◌*◌}
use mathlib.Core.Path.{◌≡◌, refl, sym, ap, subst, ◌∙◌}
use mathlib.Core.List.{List, ◌++◌}
use mathlib.Core.Bool.{Bool, true, false, cond}
use borrow.Author.Tests.{eqb-true, eqb-false, eq-eqb}
use lib.ListN.{take, drop}
use lib.Dec.{eqb}
use Rattle.table.specs.Table.{decode, standard}
use Rattle.table.specs.Judge.{judged, Accepted}
use Rattle.table.specs.declared.Answer.{Answer}
use Rattle.reader.specs.Events as scene
use Rattle.reader.specs.Spans.{span}
use Rattle.model.specs.Dispatch.{dispatch, told}
use Rattle.model.specs.Stream.{after}
use Rattle.sessions.specs.Sessions.{reader_of, state_of}
use Rattle.sessions.specs.Coherence.{counts_add_up}
use Rattle.sessions.specs.Stepping.{Step, step_of, rest_of, joined, advance_of, answered}
use Rattle.sessions.specs.Session.{Session}
use Rattle.sessions.proofs.Clauses.{clauses}
use Rattle.sessions.proofs.Sound.{Sound}
use Rattle.sessions.proofs.CoherentSound.{coherent_sound}
use Rattle.sessions.proofs.SoundCoherent.{sound_coherent}
use Rattle.sessions.proofs.SoundStep.{sound_step}
use Rattle.sessions.proofs.Behind.{behind}
use Rattle.sessions.proofs.HeldSame.{same_held}
use Rattle.demands.specs.Offers.{Sized, HoldSame}
use Rattle.demands.proofs.Refusals.{refused_keeps, accepted_writes}
use Rattle.demands.proofs.HeldAlike.{alike_states, states_alike}
use Rattle.demands.proofs.SameSteps.{same_step}

-- ---- one session
module _ (table s : List ℕ) (z : Session) (long : Sized z) (out : List ℕ) where
  abbrev r : Step
  r = step_of standard table s z out

  -- what a step with 0 read, and the states behind it
  record Went : Type 0 where
    pub from : counts_add_up z ≡ true
    pub to : counts_add_up r.session ≡ true
    pub sized : Sized r.session
    pub happened : scene.Event
    pub read : scene.next s (reader_of z) ≡ scene.event happened (reader_of r.session)
    pub stream : state_of (decode table) s r.session ≡ after (dispatch (decode table)) (state_of (decode table) s z) (told (decode table) s happened)

  went : r.answer.number ≡ 0 → Went
  went e =
      let t = decode table in
      let w = accepted_writes table s z out e in
      let ok : Accepted table ≡ true = eq-eqb (judged table).number 0 w.0.accepted in
      let sound : Sound t s z = coherent_sound t s z long.levels long.bindings long.spaces long.strands w.0.fits in
      let b = behind table ok s w.0.short z sound w.1.at w.1.records r.session w.1.plan in
      let k = sound_step table ok s z sound w.0.short w.1.at w.1.records r.session w.1.plan in
      record {
        from = (clauses t s z w.0.fits).sum;
        to = (clauses t s r.session (sound_coherent t s r.session k)).sum;
        sized = record { levels = b.fits.levels_long; bindings = b.fits.bindings_long; spaces = b.fits.spaces_long; strands = b.fits.strands_long };
        happened = b.happened;
        read = b.read ∙ ap (scene.event b.happened) (sym b.reader);
        stream = b.stream;
      }

-- ---- two
abbrev event_in : scene.Next → scene.Event
event_in (scene.event e z) = e
event_in (scene.refusal n p) = scene.text (span 0 0)
event_in (scene.finished p) = scene.text (span 0 0)

abbrev state_in : scene.ReaderState → scene.Next → scene.ReaderState
state_in d (scene.event e z) = z
state_in d (scene.refusal n p) = d
state_in d (scene.finished p) = d

module _ (table s : List ℕ) (x y : Session) (w : HoldSame x y) (out : List ℕ) where
  abbrev rx : Step
  rx = step_of standard table s x out

  abbrev ry : Step
  ry = step_of standard table s y out

  same_numbers : rx.answer.number ≡ ry.answer.number
  same_numbers = ap (λ (a : Answer). a.number) (same_step table s x y w.same out).0

  both_went : rx.answer.number ≡ 0 → HoldSame rx.session ry.session
  both_went e =
      let t = decode table in
      let a = went table s x w.one out e in
      let b = went table s y w.other out (sym same_numbers ∙ e) in
      let states = alike_states x y a.from w.same in
      let next : scene.event a.happened (reader_of rx.session) ≡ scene.event b.happened (reader_of ry.session) = sym a.read ∙ ap (scene.next s) states.0 ∙ b.read in
      let streams : state_of t s rx.session ≡ state_of t s ry.session =
      a.stream ∙ (λ i. after (dispatch t) (states.1 t s i) (told t s (event_in (next i)))) ∙ sym b.stream in
      record {
        one = a.sized;
        other = b.sized;
        same = states_alike t s rx.session ry.session a.to b.to (ap (state_in (reader_of x)) next) streams;
      }

  pub same_behind : HoldSame (step_of standard table s x out).session (step_of standard table s y out).session
  same_behind = by (eqb rx.answer.number 0) refl
    where
      by : (b : Bool) → eqb rx.answer.number 0 ≡ b → HoldSame rx.session ry.session
      by true q = both_went (eqb-true rx.answer.number 0 q)
      by false q =
          let n = eqb-false rx.answer.number 0 q in
          let ex = (refused_keeps table s x out n).session in
          let ey = (refused_keeps table s y out (λ z. n (same_numbers ∙ z))).session in
          subst (λ (v : Session). HoldSame v ry.session) (sym ex) (subst (HoldSame x) (sym ey) w)

-- ---- any number of steps
abbrev Handed : Step → Step → Type 0
Handed p q = (p.answer ≡ q.answer) × (p.output ≡ q.output) × HoldSame p.session q.session

joined_alike : (p q p' q' : Step) → Handed p q → Handed p' q' → Handed (joined p p') (joined q q')
joined_alike p q p' q' h k = (
  (λ i. answered (k.0 i).number (k.0 i).place ((h.0 i).events + (k.0 i).events) ((h.0 i).records + (k.0 i).records)),
  (λ i. take (16 * (h.0 i).records) (h.1 i) ++ k.1 i),
  k.2,
)

one_more : (table s : List ℕ) (n : ℕ) → ((u v : Session) → HoldSame u v → (o : List ℕ) → Handed (advance_of standard n table s u o) (advance_of standard n table s v o))
    → (x y : Session) → HoldSame x y → (out : List ℕ) → Handed (advance_of standard (suc n) table s x out) (advance_of standard (suc n) table s y out)
unfolding advance_of
one_more table s n ih x y w out = subst (λ (c : Bool). Handed (cond (eqb p.answer.number 0) (joined p p') p) (cond c (joined q q') q)) numbers (by (eqb p.answer.number 0))
  where
    p : Step
    p = step_of standard table s x out

    q : Step
    q = step_of standard table s y out

    p' : Step
    p' = advance_of standard n table s p.session (rest_of p)

    q' : Step
    q' = advance_of standard n table s q.session (rest_of q)

    one : Handed p q
    one = let e = same_step table s x y w.same out in (e.0, e.1, same_behind table s x y w out)

    numbers : eqb p.answer.number 0 ≡ eqb q.answer.number 0
    numbers = ap (λ (a : Answer). eqb a.number 0) one.0

    later : Handed p' q'
    later = subst (λ (o : List ℕ). Handed p' (advance_of standard n table s q.session o)) (λ i. drop (16 * (one.0 i).records) (one.1 i)) (ih p.session q.session one.2 (rest_of p))

    by : (c : Bool) → Handed (cond c (joined p p') p) (cond c (joined q q') q)
    by true = joined_alike p q p' q' one later
    by false = one

pub same_advance : (table s : List ℕ) (n : ℕ) (x y : Session) → HoldSame x y → (out : List ℕ) →
    let p = advance_of standard n table s x out in
    let q = advance_of standard n table s y out in
    (p.answer ≡ q.answer) × (p.output ≡ q.output) × HoldSame p.session q.session
unfolding advance_of
same_advance table s zero x y w out = (ap (λ (p : ℕ). answered 0 p 0 0) (same_held x y w.same).place, refl, w)
same_advance table s (suc n) x y w out = one_more table s n (same_advance table s n) x y w out
