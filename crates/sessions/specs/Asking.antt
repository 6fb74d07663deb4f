-- N6, "Ask first, then commit": when two sessions hold the same, what ask and commit hand back, for all arguments. Definitions.
use Rattle.std.specs.Prelude.{ℕ, List, Bool, cond, not, ◌&&◌, length, ltb, eqb}
use Rattle.laws.specs.Lists.{tabulate}
use Rattle.table.specs.Table.{Defaults, decode_by}
use Rattle.table.specs.Judge.{judged}
use Rattle.table.specs.declared.Answer.{Answer}
use Rattle.equality.specs.Same.{same_flag, same_each, same_binding, HeldLevel, same_level, held_level}
use Rattle.sessions.specs.Coherence.{open_bindings, coherent}
use Rattle.sessions.specs.Stepping.{Plan, refused, finished, event, plan_of, Step, answered, refused_step, planned, longest}
use Rattle.sessions.specs.Session.{Session}

-- "Sessions differ when they hold different things: place, units opened, root closed, end awaited; the bindings in order, both spans; the levels in order,
-- each with name span, class, URI span, count of bindings, and the strands in order". "array places past the counts" do not count, nor does "a number
-- stored where there is no target"
abbrev pub held_levels : Session → List HeldLevel
held_levels z = tabulate (held_level z.scope.levels z.spaces z.strands) 0 z.scope.depth

unfoldable pub holds_same : Session → Session → Bool
holds_same x y =
    eqb x.place y.place
    && (eqb x.units y.units
    && (same_flag x.closed y.closed
    && (same_flag x.awaited y.awaited
    && (same_each same_binding (open_bindings x) (open_bindings y) && same_each same_level (held_levels x) (held_levels y)))))

-- "the number, place and record count that a step would give with an output that suffices": of what a coherent session does next
abbrev pub plan_answer : Plan → Answer
plan_answer (refused n p) = answered n p 0 0
plan_answer (finished p) = answered 9 p 0 0
plan_answer (event at records next) = answered 0 next.place 0 (length records)

-- "10 short, 11 header, 10, 11, 12, 7, 20", what each is answered; else what goes on
unfoldable pub judged_first : {A : Type 0} → Defaults → List ℕ → List ℕ → Session → (ℕ → ℕ → A) → A → A
judged_first d table s z refuse go =
    cond (not (eqb (judged table).number 0)) (refuse (judged table).number (judged table).place)
    (cond (ltb longest (length s)) (refuse 7 0)
    (cond (not (coherent (decode_by d table) s z)) (refuse 20 0) go))

-- Ask: a step's numbers in their order, without 25
abbrev pub ask_answer : Defaults → List ℕ → List ℕ → Session → Answer
ask_answer d table s z = judged_first d table s z (λ (n p : ℕ). answered n p 0 0) (plan_answer (plan_of (decode_by d table) s z))

-- "Refused: 30 where session or length differ from the offer's, checked after 20 and before reading"; "numbers from 30 write no output and have place
-- and counts 0". Where they do not differ it is a step
abbrev pub step_where : Bool → Defaults → List ℕ → List ℕ → Session → List ℕ → Step
step_where same d table s z out =
    judged_first d table s z (λ (n p : ℕ). refused_step n p z out)
    (cond (not same) (refused_step 30 0 z out) (planned (plan_of (decode_by d table) s z) z out))

-- "an offer holding the session and the scene's length"
pub record Offer : Type 0 where
  pub session : Session
  pub length : ℕ

abbrev pub offer_of : Session → List ℕ → Offer
offer_of z s = record { session = z; length = length s }

-- what ask hands back
pub record Asked : Type 0 where
  pub number : ℕ
  pub place : ℕ
  pub records : ℕ
  pub offer : Offer

abbrev pub asked_as : Answer → Offer → Asked
asked_as a o = record { number = a.number; place = a.place; records = a.records; offer = o }

abbrev pub ask_of : Defaults → List ℕ → List ℕ → Session → Asked
ask_of d table s z = asked_as (ask_answer d table s z) (offer_of z s)

-- the session and the scene's length are the offer's
abbrev pub offered : Offer → Session → List ℕ → Bool
offered o z s = holds_same z o.session && eqb (length s) o.length

-- Commit
abbrev pub commit_of : Defaults → Offer → Session → List ℕ → List ℕ → List ℕ → Step
commit_of d o z table s out = step_where (offered o z s) d table s z out
