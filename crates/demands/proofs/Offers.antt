-- N6: ask and commit beside a step, for all arguments.
--     asks                  an ask says what a step gives on every output, and offers the session and the scene's length
--     commits, withholds    a commit is a step, or 30
--     commit_of_ask         a commit of what was asked is the step, with ask's figures where the output suffices
--     commit_ways           a commit is a step, or 30 and nothing changed
use Prim.Native.Nat.{ℕ, ◌*◌, ◌≤◌}
use mathlib.Core.Path.{◌≡◌, refl, sym, ap, ◌∙◌}
use mathlib.Core.List.{List}
use mathlib.Core.Bool.{Bool, true, false, cond, not}
use mathlib.Core.Logic.{◌⊎◌, inl, inr, ⊎_elim}
use native.Mathlib.Omega.{arith}
use borrow.Author.Tests.{lt-ltb, le-ltb, ltb-false, eq-eqb, eqb-true, eqb-false, not-true, not-false}
use lib.ListN.{length}
use lib.Dec.{ltb, eqb}
use Rattle.laws.specs.Tests.{both}
use Rattle.laws.proofs.Flags.{differ, and_left, and_right}
use Rattle.table.specs.Table.{decode, standard}
use Rattle.table.specs.Judge.{judged}
use Rattle.sessions.specs.Coherence.{coherent}
use Rattle.sessions.specs.Stepping.{Plan, refused, finished, event, plan_of, Step, answered, refused_step, planned, longest, step_of}
use Rattle.sessions.specs.Asking.{holds_same, plan_answer, judged_first, step_where, Offer, offer_of, asked_as, ask_of, offered, commit_of}
use Rattle.sessions.specs.Session.{Session}
use Rattle.sessions.proofs.JudgedFirst.{step_judged_first}
use Rattle.sessions.proofs.HeldSame.{same_self}
use Rattle.demands.specs.Answers.{Ready}
use Rattle.demands.specs.Offers.{Foretold, JudgedNumber, AsOffered}
use Rattle.demands.proofs.Refusals.{judges, exactly_table, exactly_7, exactly_20}

-- ---- ask
refused_foretold : (n p : ℕ) (z : Session) (s out : List ℕ) → Foretold (asked_as (answered n p 0 0) (offer_of z s)) z out (refused_step n p z out)
refused_foretold n p z s out = record { short = λ e l. absurd (omega arith); enough = λ h. (refl, refl, refl) }

plan_foretold : (p : Plan) (z : Session) (s out : List ℕ) → Foretold (asked_as (plan_answer p) (offer_of z s)) z out (planned p z out)
plan_foretold (refused n p) z s out = refused_foretold n p z s out
plan_foretold (finished p) z s out = refused_foretold 9 p z s out
plan_foretold (event at records next) z s out =
    record {
      short = λ e l. rw (lt-ltb (length out) (16 * length records) l) (refl, record { session = refl; output = refl; events = refl; records = refl });
      enough = λ h. rw (le-ltb (length out) (16 * length records) (h refl)) (refl, refl, refl);
    }

-- "Ask(t, s, x) = (n, p, r, (x, |s|))", and what it says of a step
pub asks : (table s : List ℕ) (z : Session) → ((ask_of standard table s z).offer ≡ offer_of z s) × ((out : List ℕ) → Foretold (ask_of standard table s z) z out (step_of standard table s z out))
unfolding judged_first step_of
asks table s z = (refl, λ out. by out (not (eqb (judged table).number 0)) (ltb longest (length s)) (not (coherent (decode table) s z)))
  where
    by : (out : List ℕ) (a b c : Bool) →
        Foretold (asked_as (cond a (answered (judged table).number (judged table).place 0 0) (cond b (answered 7 0 0 0) (cond c (answered 20 0 0 0) (plan_answer (plan_of (decode table) s z))))) (offer_of z s)) z out
        (cond a (refused_step (judged table).number (judged table).place z out) (cond b (refused_step 7 0 z out) (cond c (refused_step 20 0 z out) (planned (plan_of (decode table) s z) z out))))
    by out true b c = refused_foretold (judged table).number (judged table).place z s out
    by out false true c = refused_foretold 7 0 z s out
    by out false false true = refused_foretold 20 0 z s out
    by out false false false = plan_foretold (plan_of (decode table) s z) z s out

-- ---- commit
module _ (table s : List ℕ) (z : Session) (out : List ℕ) where
  -- of a session that is not the one asked about: the step's own number, or 30 where none of them is given
  unoffered : ((step_where false standard table s z out ≡ step_of standard table s z out) × JudgedNumber (step_of standard table s z out).answer.number) ⊎ ((step_where false standard table s z out ≡ refused_step 30 0 z out) × Ready table s z)
  unfolding judged_first step_of
  unoffered = by (not (eqb (judged table).number 0)) refl (ltb longest (length s)) refl (not (coherent (decode table) s z)) refl
    where
      chain : Bool → Bool → Bool → Step → Step
      chain a b c go = cond a (refused_step (judged table).number (judged table).place z out) (cond b (refused_step 7 0 z out) (cond c (refused_step 20 0 z out) go))

      go : Step
      go = planned (plan_of (decode table) s z) z out

      by : (a : Bool) → not (eqb (judged table).number 0) ≡ a → (b : Bool) → ltb longest (length s) ≡ b → (c : Bool) → not (coherent (decode table) s z) ≡ c →
          ((chain a b c (refused_step 30 0 z out) ≡ chain a b c go) × JudgedNumber (chain a b c go).answer.number) ⊎ ((chain a b c (refused_step 30 0 z out) ≡ refused_step 30 0 z out) × Ready table s z)
      by true e b f c g = inl (refl, inl (⊎_elim (λ k. absurd (eqb-false (judged table).number 0 (not-true (eqb (judged table).number 0) e) k)) (λ k. k) (judges table)))
      by false e true f c g = inl (refl, inr (inl refl))
      by false e false f true g = inl (refl, inr (inr refl))
      by false e false f false g =
          inr (refl, record { accepted = eqb-true (judged table).number 0 (not-false (eqb (judged table).number 0) e); short = ltb-false longest (length s) f; fits = not-false (coherent (decode table) s z) g })

  -- nothing of 10, 11, 12, 7 and 20
  ready_else : Ready table s z → JudgedNumber (step_of standard table s z out).answer.number → ⊥
  ready_else r (inl k) = omega (arith, r.accepted, (exactly_table table s z out (step_of standard table s z out).answer.number k.0 k.1).only refl)
  ready_else r (inr (inl k)) = omega (arith, r.short, ((exactly_7 table s z out).only k).1)
  ready_else r (inr (inr k)) = differ (sym r.fits ∙ ((exactly_20 table s z out).only k).2)

  module _ (o : Offer) where
    by_offered : (b : Bool) → offered o z s ≡ b → commit_of standard o z table s out ≡ step_where b standard table s z out
    by_offered b e = ap (λ (x : Bool). step_where x standard table s z out) e

    met : AsOffered o z s → offered o z s ≡ true
    met m = both _ _ m.0 (eq-eqb (length s) o.length m.1)

    meets : offered o z s ≡ true → AsOffered o z s
    meets e = (and_left (holds_same z o.session) _ e, eqb-true (length s) o.length (and_right (holds_same z o.session) _ e))

    -- "Commit(o, x, t, s, out) = Step(t, s, x, out) .. if that step's number is 10, 11, 12, 7 or 20, or if x holds what o's session holds and |s| is o's
    -- length"
    pub commits : JudgedNumber (step_of standard table s z out).answer.number ⊎ AsOffered o z s → commit_of standard o z table s out ≡ step_of standard table s z out
    commits h = by (offered o z s) refl h
      where
        by : (b : Bool) → offered o z s ≡ b → JudgedNumber (step_of standard table s z out).answer.number ⊎ AsOffered o z s → commit_of standard o z table s out ≡ step_of standard table s z out
        by true e h = by_offered true e ∙ step_judged_first table s z out
        by false e (inl k) = by_offered false e ∙ ⊎_elim (λ x. x.0) (λ x. absurd (ready_else x.1 k)) unoffered
        by false e (inr m) = absurd (differ (sym (met m) ∙ e))

    -- "Else it is 30 at 0, 0 events, 0 records, session x, out as lent"
    pub withholds : (JudgedNumber (step_of standard table s z out).answer.number → ⊥) → (AsOffered o z s → ⊥) → commit_of standard o z table s out ≡ refused_step 30 0 z out
    withholds n m = by (offered o z s) refl
      where
        by : (b : Bool) → offered o z s ≡ b → commit_of standard o z table s out ≡ refused_step 30 0 z out
        by true e = absurd (m (meets e))
        by false e = by_offered false e ∙ ⊎_elim (λ x. absurd (n x.1)) (λ x. x.0) unoffered

    -- so it is the one or the other
    pub commit_ways : (commit_of standard o z table s out ≡ step_of standard table s z out) ⊎ (commit_of standard o z table s out ≡ refused_step 30 0 z out)
    commit_ways = by (offered o z s) refl
      where
        by : (b : Bool) → offered o z s ≡ b → (commit_of standard o z table s out ≡ step_of standard table s z out) ⊎ (commit_of standard o z table s out ≡ refused_step 30 0 z out)
        by true e = inl (by_offered true e ∙ step_judged_first table s z out)
        by false e = ⊎_elim (λ x. inl (by_offered false e ∙ x.0)) (λ x. inr (by_offered false e ∙ x.0)) unoffered

  -- "Commit(Ask(t, s, x)'s offer, x, t, s, out) = Step(t, s, x, out); with 16 r ≤ |out| it gives Ask's number, place and records"
  pub commit_of_ask :
      let a = ask_of standard table s z in
      let r = commit_of standard a.offer z table s out in
      (r ≡ step_of standard table s z out) × (16 * a.records ≤ length out → (r.answer.number ≡ a.number) × (r.answer.place ≡ a.place) × (r.answer.records ≡ a.records))
  commit_of_ask =
      let e = commits (offer_of z s) (inr (same_self z, refl)) in
      (e, λ h. rw e (((asks table s z).1 out).enough (λ _. h)))
