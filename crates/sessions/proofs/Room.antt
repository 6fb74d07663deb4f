-- Every step's records have room in the output, which keeps its length, and it is one event at most: none, and no record, where its number is not 0.
use Prim.Native.Nat.{ℕ, ◌*◌, ◌≤◌}
use mathlib.Core.Path.{◌≡◌, refl}
use mathlib.Core.List.{List, [], ◌∷◌}
use mathlib.Core.Bool.{not}
use native.Mathlib.Omega.{arith}
use borrow.Author.Tests.{ltb-false}
use lib.Dec.{eqb, ltb}
use lib.ListN.{length, length-append}
use Rattle.laws.specs.Gather.{gather}
use Rattle.laws.proofs.Over.{length_over}
use Rattle.laws.proofs.Holds.{holds_cond}
use Rattle.table.specs.Table.{decode, standard}
use Rattle.table.specs.Judge.{judged}
use Rattle.model.specs.Theory.{Record}
use Rattle.model.specs.Records.{Body, record_bytes}
use Rattle.model.specs.Dispatch.{record_bytes_of}
use Rattle.sessions.specs.Coherence.{coherent}
use Rattle.sessions.specs.Stepping.{Plan, refused, finished, event, plan_of, planned, Step, refused_step, longest, step_of}
use Rattle.sessions.specs.Session.{Session}

pub record Roomed (out : List ℕ) (r : Step) : Type 0 where
  pub room : 16 * r.answer.records ≤ length out
  pub one : r.answer.events ≤ 1
  pub same : length r.output ≡ length out
  pub nothing : (r.answer.number ≡ 0 → ⊥) → (r.answer.events ≡ 0) × (r.answer.records ≡ 0)

pub records_length : (rs : List (Record Body ℕ)) → length (gather record_bytes_of rs) ≡ 16 * length rs
unfolding gather record_bytes
records_length [] = refl
records_length (r ∷ rs) = simp length-append (omega (arith, records_length rs))

refused_roomed : (n p : ℕ) (z : Session) (out : List ℕ) → Roomed out (refused_step n p z out)
refused_roomed n p z out = record { room = omega arith; one = omega arith; same = refl; nothing = λ k. (refl, refl) }

pub planned_roomed : (p : Plan) (z : Session) (out : List ℕ) → Roomed out (planned p z out)
planned_roomed (refused n p) z out = refused_roomed n p z out
planned_roomed (finished p) z out = refused_roomed 9 p z out
planned_roomed (event at rs next) z out =
    holds_cond (Roomed out) (ltb (length out) (16 * length rs)) (λ _. refused_roomed 25 at z out)
    (λ l.
    let room = ltb-false (length out) (16 * length rs) l in
    record { room = room; one = omega arith; same = length_over out 0 (gather record_bytes_of rs) (omega (arith, records_length rs, room)); nothing = λ k. absurd (k refl) })

pub step_roomed : (table s : List ℕ) (z : Session) (out : List ℕ) → Roomed out (step_of standard table s z out)
unfolding step_of
step_roomed table s z out =
    holds_cond (Roomed out) (not (eqb (judged table).number 0)) (λ _. refused_roomed (judged table).number (judged table).place z out)
    (λ _. holds_cond (Roomed out) (ltb longest (length s)) (λ _. refused_roomed 7 0 z out)
    (λ _. holds_cond (Roomed out) (not (coherent (decode table) s z)) (λ _. refused_roomed 20 0 z out)
    (λ _. planned_roomed (plan_of (decode table) s z) z out)))
