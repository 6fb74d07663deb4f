-- N6: what numbers and counts an ask gives.
--     ask_below_25     "Ask never gives 25"; nor 30, which is commit's alone
--     ask_records      "Records are 0 unless the number is 0"
use Prim.Native.Nat.{ℕ, ◌*◌, ◌≤◌, ◌<◌}
use mathlib.Core.Path.{◌≡◌, refl, sym, ap, ◌∙◌}
use mathlib.Core.List.{List, []}
use mathlib.Core.Bool.{Bool, true, false}
use native.Mathlib.Omega.{arith}
use borrow.Author.Tests.{eqb-true, eqb-false}
use lib.ListN.{length, replicate, length-replicate}
use lib.Dec.{eqb}
use Rattle.table.specs.Table.{standard}
use Rattle.model.specs.Theory.{Record}
use Rattle.model.specs.Records.{Body}
use Rattle.sessions.specs.Stepping.{Plan, refused, finished, event, Step, step_of}
use Rattle.sessions.specs.Asking.{ask_of}
use Rattle.sessions.specs.Session.{Session}
use Rattle.demands.specs.Answers as step
use Rattle.demands.specs.Answers.{Answered}
use Rattle.demands.proofs.Refusals.{answered_by, refused_keeps, exactly_25}
use Rattle.demands.proofs.Offers.{asks}

few : {table s out : List ℕ} {z : Session} {r : Step} → Answered table s z out r → r.answer.number ≤ 25
few (step.bad_table a b) = omega (arith, b)
few (step.long_scene a l) = omega arith
few (step.bad_session a l c) = omega arith
few (step.unread r n p q a b) = omega (arith, b)
few (step.all_read r p q) = omega arith
few (step.limited r e o q n l a b) = omega (arith, b)
few (step.no_room r p rs z'' q l) = omega arith
few (step.wrote r p rs z'' q l) = omega arith

abbrev records_in : Plan → List (Record Body ℕ)
records_in (refused n p) = []
records_in (finished p) = []
records_in (event p rs z) = rs

module _ (table s : List ℕ) (z : Session) where
  -- with another number than 0 it is the step's, on every output
  same : ((ask_of standard table s z).number ≡ 0 → ⊥) → (out : List ℕ) → ((step_of standard table s z out).answer.number ≡ (ask_of standard table s z).number) × ((step_of standard table s z out).answer.records ≡ (ask_of standard table s z).records)
  same n out = let w = ((asks table s z).1 out).enough (λ e. absurd (n e)) in (w.0, w.2)

  -- not 25: that depends on the output
  not_25 : (ask_of standard table s z).number ≡ 25 → ⊥
  not_25 e =
      let n : (ask_of standard table s z).number ≡ 0 → ⊥ = λ q. omega arith in
      let a = ((exactly_25 table s z []).only ((same n []).0 ∙ e)).1 in
      let rs = a.0 in
      let out : List ℕ = replicate (16 * length rs) 0 in
      let b = ((exactly_25 table s z out).only ((same n out).0 ∙ e)).1 in
      let one : length rs ≡ length b.0 = ap (λ (p : Plan). length (records_in p)) (sym a.2 ∙ b.2) in
      omega (arith, one, b.3, length-replicate {A = ℕ} (16 * length rs) 0)

  pub ask_below_25 : (ask_of standard table s z).number < 25
  ask_below_25 = by (eqb (ask_of standard table s z).number 0) refl
    where
      by : (b : Bool) → eqb (ask_of standard table s z).number 0 ≡ b → (ask_of standard table s z).number < 25
      by true e = omega (arith, eqb-true (ask_of standard table s z).number 0 e)
      by false e = omega (arith, not_25, (same (eqb-false (ask_of standard table s z).number 0 e) []).0, few (answered_by table s z []))

  pub ask_records : ((ask_of standard table s z).number ≡ 0 → ⊥) → (ask_of standard table s z).records ≡ 0
  ask_records n = sym (same n []).1 ∙ (refused_keeps table s z [] (λ q. n (sym (same n []).0 ∙ q))).records
