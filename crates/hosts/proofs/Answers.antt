-- What a step, an advance or a commit hands back of a session: a number that is at most 30; that session, where no event is counted; one that can be stored,
-- where that can.
use Prim.Native.Nat.{ℕ, zero, suc, ◌≤◌}
use mathlib.Core.Path.{◌≡◌, refl, sym, subst}
use mathlib.Core.List.{List}
use mathlib.Core.Logic.{⊎_elim}
use native.Mathlib.Omega.{arith}
use borrow.Author.Tests.{eqb-true}
use lib.Dec.{eqb}
use Rattle.laws.proofs.Holds.{holds_cond}
use Rattle.table.specs.Table.{standard}
use Rattle.sessions.specs.Session.{Session}
use Rattle.sessions.specs.Stepping.{Step, step_of, rest_of, advance_of}
use Rattle.demands.specs.Answers.{Answered, bad_table, long_scene, bad_session, unread, all_read, limited, no_room, wrote}
use Rattle.demands.specs.Calls.{AnyCall, of_step, of_advance, handed_back}
use Rattle.demands.specs.Offers.{OfferedCall, of_call, of_commit, handed_over}
use Rattle.demands.proofs.Refusals.{answered_by, accepted_writes}
use Rattle.demands.proofs.Offers.{commit_ways}
use Rattle.layout.proofs.RoundTrip.{Storable, AllPack}
use Rattle.layout.proofs.NextHeld.{next_held}
use Rattle.layout.proofs.NextStored.{next_storable}

pub record Answers (z : Session) (r : Step) : Type 0 where
  pub few : r.answer.number ≤ 30
  pub keeps : r.answer.events ≡ 0 → r.session ≡ z
  pub storable : Storable z → Storable r.session
  pub packs : AllPack z → AllPack r.session

module _ (table s : List ℕ) where
  few_numbers : (z : Session) (out : List ℕ) {r : Step} → Answered table s z out r → (r.answer.number ≤ 30) × (r.answer.events ≡ 0 → r.session ≡ z)
  few_numbers z out (bad_table lo hi) = (omega arith, λ e. refl)
  few_numbers z out (long_scene a l) = (omega arith, λ e. refl)
  few_numbers z out (bad_session a l c) = (omega arith, λ e. refl)
  few_numbers z out (unread r n p q lo hi) = (omega arith, λ e. refl)
  few_numbers z out (all_read r p q) = (omega arith, λ e. refl)
  few_numbers z out (limited r e o q n l lo hi) = (omega arith, λ e. refl)
  few_numbers z out (no_room r p rs z'' q l) = (omega arith, λ e. refl)
  few_numbers z out (wrote r p rs z'' q l) = (omega arith, λ e. absurd (omega arith))

  step_answers : (z : Session) (out : List ℕ) → Answers z (step_of standard table s z out)
  step_answers z out =
      let a = few_numbers z out (answered_by table s z out) in
      record { few = a.0; keeps = a.1; storable = next_storable table s z out; packs = next_held table s z out }

  advance_answers : (most : ℕ) (z : Session) (out : List ℕ) → Answers z (advance_of standard most table s z out)
  unfolding advance_of
  advance_answers zero z out = record { few = omega arith; keeps = λ e. refl; storable = λ h. h; packs = λ h. h }
  advance_answers (suc n) z out =
      let r = step_of standard table s z out in
      let a = step_answers z out in
      let i = advance_answers n r.session (rest_of r) in
      holds_cond (Answers z) (eqb r.answer.number 0)
      (λ e. record {
        few = i.few;
        keeps = λ k. absurd (omega (arith, (accepted_writes table s z out (eqb-true r.answer.number 0 e)).1.events));
        storable = λ h. i.storable (a.storable h);
        packs = λ h. i.packs (a.packs h);
      })
      (λ e. a)

pub answers : (table : List ℕ) (z : Session) (c : AnyCall) → Answers z (handed_back table z c)
answers table z (of_step c) = step_answers table c.scene z c.output
answers table z (of_advance most c) = advance_answers table c.scene most z c.output

pub offered_answers : (table : List ℕ) (z : Session) (c : OfferedCall) → Answers z (handed_over table z c)
offered_answers table z (of_call c) = answers table z c
offered_answers table z (of_commit o c) =
    ⊎_elim
    (λ e. subst (Answers z) (sym e) (step_answers table c.scene z c.output))
    (λ e. subst (Answers z) (sym e) (record { few = omega arith; keeps = λ k. refl; storable = λ h. h; packs = λ h. h }))
    (commit_ways table c.scene z c.output o)
