-- Laws of `advance_of`.
--     joined_none, joined_assoc, rest_joined    calls joined
--     advance_one                               one step is a step
--     advance_more, advance_stopped             so many steps, and then so many more
--     advance_kept                              of a sound session
--     further-*                                 one step more behind what was handed back
use Prim.Native.Nat.{ℕ, zero, suc, ◌+◌, ◌*◌, ◌≤◌}
use mathlib.Core.Path.{◌≡◌, refl, sym, ap, subst, ◌∙◌}
use mathlib.Core.List.{List, ◌++◌, append_assoc}
use mathlib.Core.Bool.{Bool, true, false, cond, not}
use native.Mathlib.Omega.{arith}
use borrow.Author.Tests.{eqb-true, eqb-false, eq-eqb, ne_eqb, not-true, not-false}
use lib.Dec.{eqb, ltb}
use lib.ListN.{length, take, drop, take-append-drop}
use lib.Seq.{length-take-le, take-append-add, drop-append-add}
use Rattle.laws.proofs.Holds.{holds_cond}
use Rattle.table.specs.Table.{decode, standard}
use Rattle.table.specs.Judge.{judged, Accepted}
use Rattle.sessions.specs.Coherence.{coherent}
use Rattle.sessions.specs.Stepping.{Plan, refused, finished, event, plan_of, planned, Step, answered, refused_step, longest, step_of, rest_of, joined, advance_of}
use Rattle.sessions.specs.Session.{Session}
use Rattle.sessions.proofs.Sound.{Sound}
use Rattle.sessions.proofs.CoherentSound.{coherent_held}
use Rattle.sessions.proofs.SoundStep.{Numbered, plan_not, StepKept, step_kept}
use Rattle.sessions.proofs.Room.{Roomed, step_roomed}

-- ---- joined
abbrev pub step_as : ℕ → ℕ → Session → ℕ → ℕ → List ℕ → Step
step_as number place z events records out = record { answer = answered number place events records; session = z; output = out }

same_step : (number place : ℕ) (z : Session) (e e' k k' : ℕ) (o o' : List ℕ) → e ≡ e' → k ≡ k' → o ≡ o' → step_as number place z e k o ≡ step_as number place z e' k' o'
same_step number place z e e' k k' o o' p q r = ap (λ (x : ℕ). step_as number place z x k o) p ∙ ap (λ (x : ℕ). step_as number place z e' x o) q ∙ ap (step_as number place z e' k') r

-- so many events and records behind which a session is
abbrev pub so_far : Session → ℕ → ℕ → List ℕ → Step
so_far z events records out = step_as 0 z.place z events records out

pub joined_none : (z : Session) (out : List ℕ) (r : Step) → joined (so_far z 0 0 out) r ≡ r
joined_none z out r = same_step r.answer.number r.answer.place r.session _ _ _ _ _ _ (omega arith) (omega arith) refl

module _ (a b : Step) (h : 16 * a.answer.records ≤ length a.output) where
  front : length (take (16 * a.answer.records) a.output) ≡ 16 * a.answer.records
  front = length-take-le (16 * a.answer.records) a.output h

  behind : 16 * (a.answer.records + b.answer.records) ≡ length (take (16 * a.answer.records) a.output) + 16 * b.answer.records
  behind = omega (arith, front)

  rest_joined : rest_of (joined a b) ≡ rest_of b
  rest_joined =
      ap (λ (m : ℕ). drop m (take (16 * a.answer.records) a.output ++ b.output)) behind
      ∙ drop-append-add (take (16 * a.answer.records) a.output) b.output (16 * b.answer.records)

  kept_joined : take (16 * (a.answer.records + b.answer.records)) (joined a b).output ≡ take (16 * a.answer.records) a.output ++ take (16 * b.answer.records) b.output
  kept_joined =
      ap (λ (m : ℕ). take m (take (16 * a.answer.records) a.output ++ b.output)) behind
      ∙ take-append-add (take (16 * a.answer.records) a.output) b.output (16 * b.answer.records)

  joined_assoc : (c : Step) → joined a (joined b c) ≡ joined (joined a b) c
  joined_assoc c =
      same_step c.answer.number c.answer.place c.session
      (a.answer.events + (b.answer.events + c.answer.events)) (a.answer.events + b.answer.events + c.answer.events)
      (a.answer.records + (b.answer.records + c.answer.records)) (a.answer.records + b.answer.records + c.answer.records) _ _
      (omega arith) (omega arith)
      (sym (append_assoc (take (16 * a.answer.records) a.output) (take (16 * b.answer.records) b.output) c.output) ∙ ap (λ (l : List ℕ). l ++ c.output) (sym kept_joined))

-- ---- what a step that gives 0 answers
record OneEvent (r : Step) : Type 0 where
  pub one : r.answer.number ≡ 0 → (r.answer.events ≡ 1) × (r.answer.place ≡ r.session.place)

refused_one : (n p : ℕ) (z : Session) (out : List ℕ) → 1 ≤ n → OneEvent (refused_step n p z out)
refused_one n p z out h = record { one = λ e. absurd (omega arith) }

planned_one : (p : Plan) (z : Session) (out : List ℕ) → Numbered p → OneEvent (planned p z out)
planned_one (refused n p) z out h = refused_one n p z out h.1
planned_one (finished p) z out h = refused_one 9 p z out (omega arith)
planned_one (event at rs next) z out h =
    holds_cond OneEvent (ltb (length out) (16 * length rs)) (λ _. refused_one 25 at z out (omega arith)) (λ _. record { one = λ e. (refl, refl) })

step_one_event : (table s : List ℕ) (z : Session) (out : List ℕ) → OneEvent (step_of standard table s z out)
unfolding step_of
step_one_event table s z out =
    holds_cond OneEvent (not (eqb (judged table).number 0))
    (λ n. record { one = λ e. absurd (eqb-false (judged table).number 0 (not-true (eqb (judged table).number 0) n) e) })
    (λ _. holds_cond OneEvent (ltb longest (length s)) (λ _. refused_one 7 0 z out (omega arith))
    (λ _. holds_cond OneEvent (not (coherent (decode table) s z)) (λ _. refused_one 20 0 z out (omega arith))
    (λ c.
    planned_one (plan_of (decode table) s z) z out (plan_not (decode table) s z (coherent_held (decode table) s z (not-false (coherent (decode table) s z) c))))))

-- ---- a first step
-- so many steps behind what was handed back
abbrev pub further : ℕ → List ℕ → List ℕ → Step → Step
further n table s a = joined a (advance_of standard n table s a.session (rest_of a))

module _ (n : ℕ) (table s : List ℕ) (z : Session) (out : List ℕ) (r : Step) (q : step_of standard table s z out ≡ r) where
  pub advance_stops : (r.answer.number ≡ 0 → ⊥) → advance_of standard (suc n) table s z out ≡ r
  unfolding advance_of
  advance_stops k = rw (q, ne_eqb r.answer.number 0 k)

  advance_goes : r.answer.number ≡ 0 → advance_of standard (suc n) table s z out ≡ further n table s r
  unfolding advance_of
  advance_goes e = rw (q, eq-eqb r.answer.number 0 e)

  step_fits : 16 * r.answer.records ≤ length r.output
  step_fits = let k = subst (Roomed out) q (step_roomed table s z out) in omega (arith, k.room, k.same)

-- ---- one step more
pub further_none : (table s : List ℕ) (z : Session) (events records : ℕ) (out : List ℕ) → further 0 table s (so_far z events records out) ≡ so_far z events records out
unfolding advance_of
further_none table s z events records out = same_step 0 z.place z (events + 0) events (records + 0) records _ _ (omega arith) (omega arith) (take-append-drop (16 * records) out)

module _ (n : ℕ) (table s : List ℕ) (z : Session) (events records : ℕ) (out : List ℕ) (h : 16 * records ≤ length out) (r : Step) (q : step_of standard table s z (drop (16 * records) out) ≡ r) where
  roomed : Roomed (drop (16 * records) out) r
  roomed = subst (Roomed (drop (16 * records) out)) q (step_roomed table s z (drop (16 * records) out))

  pub further_stops : (r.answer.number ≡ 0 → ⊥)
      → further (suc n) table s (so_far z events records out) ≡ step_as r.answer.number r.answer.place r.session events records (take (16 * records) out ++ r.output)
  further_stops k =
      ap (joined (so_far z events records out)) (advance_stops n table s z (drop (16 * records) out) r q k)
      ∙ same_step r.answer.number r.answer.place r.session (events + r.answer.events) events (records + r.answer.records) records _ _
      (omega (arith, (roomed.nothing k).0)) (omega (arith, (roomed.nothing k).1)) refl

  pub further_goes : r.answer.number ≡ 0
      → further (suc n) table s (so_far z events records out) ≡ further n table s (so_far r.session (events + 1) (records + r.answer.records) (take (16 * records) out ++ r.output))
  further_goes e =
      ap (joined (so_far z events records out)) (advance_goes n table s z (drop (16 * records) out) r q e)
      ∙ joined_assoc (so_far z events records out) r h (advance_of standard n table s r.session (rest_of r))
      ∙ ap (λ (l : List ℕ). joined (joined (so_far z events records out) r) (advance_of standard n table s r.session l)) (sym (rest_joined (so_far z events records out) r h))
      ∙ ap (λ (k : ℕ). further n table s (step_as 0 r.session.place r.session (events + k) (records + r.answer.records) (take (16 * records) out ++ r.output))) ((subst OneEvent q (step_one_event table s z (drop (16 * records) out))).one e).0

-- ---- one step is a step
pub advance_one : (table s : List ℕ) (z : Session) (out : List ℕ) → advance_of standard 1 table s z out ≡ step_of standard table s z out
advance_one table s z out = by (step_of standard table s z out) refl (eqb (step_of standard table s z out).answer.number 0) refl
  where
    by : (r : Step) → step_of standard table s z out ≡ r → (b : Bool) → eqb r.answer.number 0 ≡ b → advance_of standard 1 table s z out ≡ r
    by r q true e =
        let n = eqb-true r.answer.number 0 e in
        let t = (subst OneEvent q (step_one_event table s z out)).one n in
        let same : so_far r.session r.answer.events r.answer.records r.output ≡ r =
        ap (λ (x : ℕ). step_as x r.session.place r.session r.answer.events r.answer.records r.output) (sym n)
        ∙ ap (λ (x : ℕ). step_as r.answer.number x r.session r.answer.events r.answer.records r.output) (sym t.1) in
        advance_goes 0 table s z out r q n ∙ further_none table s r.session r.answer.events r.answer.records r.output ∙ same
    by r q false e = advance_stops 0 table s z out r q (eqb-false r.answer.number 0 e)

-- ---- so many steps, and then so many more
module _ (n : ℕ) (table s : List ℕ) where
  abbrev More : ℕ → Session → List ℕ → Step → Type 0
  More m z out a = a.answer.number ≡ 0 → advance_of standard (m + n) table s z out ≡ further n table s a

  more : (m : ℕ) (z : Session) (out : List ℕ) → More m z out (advance_of standard m table s z out)
  unfolding advance_of
  more zero z out = λ e. let i : 0 + n ≡ n = omega arith in ap (λ (k : ℕ). advance_of standard k table s z out) i ∙ sym (joined_none z out (advance_of standard n table s z out))
  more (suc m) z out = by (λ w o. more m w o) (step_of standard table s z out) refl
    where
      by : ((w : Session) (o : List ℕ) → More m w o (advance_of standard m table s w o)) → (r : Step) → step_of standard table s z out ≡ r
          → More (suc m) z out (cond (eqb r.answer.number 0) (further m table s r) r)
      by ih r q =
          let a = advance_of standard m table s r.session (rest_of r) in
          let fits = step_fits m table s z out r q in
          let i : suc m + n ≡ suc (m + n) = omega arith in
          holds_cond (More (suc m) z out) (eqb r.answer.number 0)
          (λ e f.
          ap (λ (x : ℕ). advance_of standard x table s z out) i
          ∙ advance_goes (m + n) table s z out r q (eqb-true r.answer.number 0 e)
          ∙ ap (joined r) (ih r.session (rest_of r) f)
          ∙ joined_assoc r a fits (advance_of standard n table s a.session (rest_of a))
          ∙ ap (λ (l : List ℕ). joined (joined r a) (advance_of standard n table s a.session l)) (sym (rest_joined r a fits)))
          (λ e f. absurd (eqb-false r.answer.number 0 e f))

  abbrev Stays : ℕ → Session → List ℕ → Step → Type 0
  Stays m z out a = (a.answer.number ≡ 0 → ⊥) → advance_of standard (m + n) table s z out ≡ a

  stays : (m : ℕ) (z : Session) (out : List ℕ) → Stays m z out (advance_of standard m table s z out)
  unfolding advance_of
  stays zero z out = λ k. absurd (k refl)
  stays (suc m) z out = by (λ w o. stays m w o) (step_of standard table s z out) refl
    where
      by : ((w : Session) (o : List ℕ) → Stays m w o (advance_of standard m table s w o)) → (r : Step) → step_of standard table s z out ≡ r
          → Stays (suc m) z out (cond (eqb r.answer.number 0) (further m table s r) r)
      by ih r q =
          let i : suc m + n ≡ suc (m + n) = omega arith in
          holds_cond (Stays (suc m) z out) (eqb r.answer.number 0)
          (λ e f.
          ap (λ (x : ℕ). advance_of standard x table s z out) i
          ∙ advance_goes (m + n) table s z out r q (eqb-true r.answer.number 0 e)
          ∙ ap (joined r) (ih r.session (rest_of r) f))
          (λ e f. ap (λ (x : ℕ). advance_of standard x table s z out) i ∙ advance_stops (m + n) table s z out r q f)

-- where the first call gives 0, the second goes on from its session, and is lent the rest of its output
pub advance_more : (m n : ℕ) (table s : List ℕ) (z : Session) (out : List ℕ)
    → (advance_of standard m table s z out).answer.number ≡ 0
    → advance_of standard (m + n) table s z out ≡ joined (advance_of standard m table s z out) (advance_of standard n table s (advance_of standard m table s z out).session (rest_of (advance_of standard m table s z out)))
advance_more m n table s z out = more n table s m z out

-- where it gives another number, more steps change nothing
pub advance_stopped : (m n : ℕ) (table s : List ℕ) (z : Session) (out : List ℕ)
    → ((advance_of standard m table s z out).answer.number ≡ 0 → ⊥)
    → advance_of standard (m + n) table s z out ≡ advance_of standard m table s z out
advance_stopped m n table s z out = stays n table s m z out

-- ---- of a sound session
-- number 20 is never given, and the session handed back is sound
module _ (table : List ℕ) (accepted : Accepted table ≡ true) (s : List ℕ) where
  pub advance_kept : (most : ℕ) (z : Session) → Sound (decode table) s z → (out : List ℕ) → StepKept (decode table) s (advance_of standard most table s z out)
  unfolding advance_of
  advance_kept zero z h out = record { not_20 = omega arith; sound = h }
  advance_kept (suc n) z h out =
      let r = step_of standard table s z out in
      let k = step_kept table accepted s z h out in
      let i = advance_kept n r.session k.sound (rest_of r) in
      holds_cond (StepKept (decode table) s) (eqb r.answer.number 0) (λ e. record { not_20 = i.not_20; sound = i.sound }) (λ e. k)
