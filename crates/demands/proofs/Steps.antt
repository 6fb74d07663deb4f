-- Demand 3: the records of all accepted steps, joined, are the model's of the last scene's first events, as many as were accepted.
--     steps              one claim about the whole list
--     finished_steps     the same where the last step gives 9: of the whole scene
--     limited_steps      a step's number 21 to 24 is that of the limit which its event passes
--     no_later_byte      a longer last scene or further steps never change, withdraw or precede a record already handed out
use Prim.Native.Nat.{ℕ, ◌+◌, ◌≤◌, ◌<◌}
use mathlib.Core.Path.{◌≡◌, refl, sym, ap, subst, ◌∙◌}
use mathlib.Core.List.{List, [], ◌∷◌, ◌++◌, map, map-append}
use mathlib.Core.Bool.{true}
use mathlib.Core.Logic.{◌⊎◌}
use native.Mathlib.Omega.{arith}
use borrow.Author.Tests.{eqb-true, eqb-false}
use lib.ListN.{length, get_or}
use lib.Dec.{eqb}
use lib.Seq.{get_or-append_seam}
use Rattle.laws.specs.Lists.{keep}
use Rattle.laws.specs.Gather.{gather, total}
use Rattle.laws.specs.Members.{All}
use Rattle.laws.proofs.Holds.{holds_cond}
use Rattle.table.specs.Table.{decode, standard}
use Rattle.table.specs.Judge.{Accepted}
use Rattle.reader.specs.Events.{Event, events}
use Rattle.model.specs.Dispatch.{expected}
use Rattle.sessions.specs.Sessions.{fresh_of}
use Rattle.sessions.specs.Stepping.{event_place, Step, step_of}
use Rattle.sessions.specs.Session.{Session}
use Rattle.demands.specs.Calls.{Call, BeginsWith, GrowingFrom, Growing, last_scene_from, last_scene, steps_from, accepted_in, records_of, joined_of, last_number, AnyCall, of_step, call_of, calls_from, session_after, events_in, all_records}
use Rattle.demands.specs.Scenes.{whole_model}
use Rattle.demands.specs.Limits.{passed}
use Rattle.demands.proofs.Refusals.{refused_keeps, accepted_writes}
use Rattle.demands.proofs.Reached.{Reached, reached_more}
use Rattle.demands.proofs.Limits.{limited_answer}
use Rattle.demands.proofs.Calls.{calls as calls-of, finished_calls, no_later_call_byte, growing_from, all_called, all_reached, then_calls}

-- ---- by calls each of which is a step
abbrev pub as_calls : List Call → List AnyCall
as_calls calls = map of_step calls

same_calls : (calls : List Call) → map call_of (as_calls calls) ≡ calls
same_calls [] = refl
same_calls (c ∷ cs) = ap (λ (l : List Call). c ∷ l) (same_calls cs)

pub as_steps : (table : List ℕ) (calls : List Call) (z : Session) → calls_from table z (as_calls calls) ≡ steps_from table z calls
unfolding calls_from steps_from
as_steps table [] z = refl
as_steps table (c ∷ cs) z = let r = step_of standard table c.scene z c.output in ap (λ (l : List Step). r ∷ l) (as_steps table cs r.session)

-- the events and the records of steps are those of the accepted ones
counted : (table : List ℕ) (calls : List Call) (z : Session) → let rs = steps_from table z calls in (events_in rs ≡ accepted_in rs) × (all_records rs ≡ joined_of rs)
unfolding steps_from events_in total all_records joined_of keep gather
counted table [] z = (refl, refl)
counted table (c ∷ cs) z =
    let s = c.scene in
    let out = c.output in
    let r = step_of standard table s z out in
    let rs = steps_from table r.session cs in
    let i = counted table cs r.session in
    holds_cond (λ (l : List Step). (r.answer.events + events_in rs ≡ length l) × (records_of r ++ all_records rs ≡ gather records_of l)) (eqb r.answer.number 0)
    (λ e. (omega (arith, (accepted_writes table s z out (eqb-true r.answer.number 0 e)).1.events), ap (λ (l : List ℕ). records_of r ++ l) i.1))
    (λ e. let u = refused_keeps table s z out (eqb-false r.answer.number 0 e) in (omega (arith, u.events), rw u.records i.1))

pub steps : (table : List ℕ) (calls : List Call) → Growing calls →
    let rs = steps_from table fresh_of calls in
    let last = last_scene calls in
    let k = accepted_in rs in
    All (λ (r : Step). r.answer.number ≡ 20 → ⊥) rs × (k ≤ length (events last)) × (joined_of rs ≡ expected (decode table) last k)
steps table calls g =
    let r = counted table calls fresh_of in
    rw (same_calls calls, as_steps table calls fresh_of, r.0, r.1) at (calls-of table (as_calls calls) (rw (same_calls calls) g))

-- demand 2 for lists of steps. "9 finished: root closed, only space follows": where the last step gives 9, all events were accepted, and the records
-- are the model's of the whole scene
pub finished_steps : (table : List ℕ) (calls : List Call) → Growing calls →
    let rs = steps_from table fresh_of calls in
    let last = last_scene calls in
    last_number rs ≡ 9 → (accepted_in rs ≡ length (events last)) × (joined_of rs ≡ whole_model (decode table) last)
finished_steps table calls g =
    let r = counted table calls fresh_of in
    rw (same_calls calls, as_steps table calls fresh_of, r.0, r.1) at (finished_calls table (as_calls calls) (rw (same_calls calls) g))

-- ---- further steps
growing_last : (calls : List Call) (s : List ℕ) (c : Call) → GrowingFrom s (calls ++ (c ∷ [])) → BeginsWith c.scene (last_scene_from s calls)
growing_last [] s c g = g.0
growing_last (x ∷ cs) s c g = growing_last cs x.scene c g.1

growing_first : (calls more : List Call) → Growing (calls ++ more) → Growing calls
growing_first [] more g = tt
growing_first (c ∷ cs) more g = from cs c.scene g
  where
    from : (calls : List Call) (s : List ℕ) → GrowingFrom s (calls ++ more) → GrowingFrom s calls
    from [] s g = tt
    from (c ∷ cs) s g = (g.0, from cs c.scene g.1)

pub no_later_byte : (table : List ℕ) (calls more : List Call) → BeginsWith (joined_of (steps_from table fresh_of (calls ++ more))) (joined_of (steps_from table fresh_of calls))
no_later_byte table calls more =
    rw (← map-append, as_steps table (calls ++ more) fresh_of, (counted table (calls ++ more) fresh_of).1, as_steps table calls fresh_of, (counted table calls fresh_of).1) at (no_later_call_byte table (as_calls calls) (as_calls more))

-- the same of the model
pub no_later_record : (table : List ℕ) (calls more : List Call) → Growing (calls ++ more) →
    BeginsWith (expected (decode table) (last_scene (calls ++ more)) (accepted_in (steps_from table fresh_of (calls ++ more)))) (expected (decode table) (last_scene calls) (accepted_in (steps_from table fresh_of calls)))
no_later_record table calls more g =
    let r = no_later_byte table calls more in
    (r.0, sym (steps table (calls ++ more) g).2 ∙ r.1 ∙ ap (λ (l : List ℕ). l ++ r.0) (steps table calls (growing_first calls more g)).2)

-- ---- limits
-- "21 depth 65; 22 a 65th open binding; 23 a 17th strand; 24 a unit past 65,535 (< of the tag)": a step behind others, where its scene has more events
-- than were accepted, gives the limit that the next passes; where that passes none, 0 or 25
pub limited_steps : (table : List ℕ) (calls : List Call) (c : Call) → Growing (calls ++ (c ∷ [])) → Accepted table ≡ true → length c.scene ≤ 16777215 → (r : Step) → steps_from table fresh_of (calls ++ (c ∷ [])) ≡ steps_from table fresh_of calls ++ (r ∷ []) →
    let s = c.scene in
    let k = accepted_in (steps_from table fresh_of calls) in
    let n = passed (decode table) s k in
    k < length (events s) → (d : Event) →
    ((n ≡ 0 → ⊥) → (r.answer.number ≡ n) × (r.answer.place ≡ event_place (get_or (events s) k d)))
    × (n ≡ 0 → (r.answer.number ≡ 0) ⊎ (r.answer.number ≡ 25))
unfolding calls_from
limited_steps table calls c g ok short r q lt d =
    let z = session_after table fresh_of (as_calls calls) in
    let first = steps_from table fresh_of calls in
    let k = accepted_in first in
    let longer : BeginsWith c.scene (last_scene calls) = growing_last calls [] c (growing_from (calls ++ (c ∷ [])) g) in
    let grows : Growing (map call_of (as_calls calls)) = rw (same_calls calls) (growing_first calls (c ∷ []) g) in
    let rs = (all_called table (as_calls calls) grows).records in
    let there : Reached (decode table) (last_scene calls) z k rs = rw (same_calls calls, as_steps table calls fresh_of, (counted table calls fresh_of).0) at (all_reached table (as_calls calls) grows) in
    let here : Reached (decode table) c.scene z k rs = subst (λ (x : List ℕ). Reached (decode table) x z k rs) (sym longer.1) (reached_more (decode table) (last_scene calls) z k rs there longer.0) in
    let last = step_of standard table c.scene z c.output in
    let is : steps_from table fresh_of (calls ++ (c ∷ [])) ≡ first ++ (last ∷ []) =
    sym (as_steps table (calls ++ (c ∷ [])) fresh_of) ∙ ap (calls_from table fresh_of) (map-append of_step calls (c ∷ [])) ∙ then_calls table (as_calls calls) (of_step c ∷ []) fresh_of ∙ ap (λ (l : List Step). l ++ (last ∷ [])) (as_steps table calls fresh_of) in
    let same : r ≡ last = sym (get_or-append_seam first r [] r) ∙ ap (λ (l : List Step). get_or l (length first) r) (sym q ∙ is) ∙ get_or-append_seam first last [] r in
    let l = limited_answer table ok c.scene short z k rs here lt d c.output in
    rw same (λ n. (ap (λ (x : Step). x.answer.number) (l.0 n), ap (λ (x : Step). x.answer.place) (l.0 n)), l.1)
