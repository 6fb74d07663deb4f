-- 'Calls' and 'From the input', 'From the state': what step, advance and run hand back, for all arguments. Definitions.
use Rattle.std.specs.Prelude.{ℕ, zero, suc, ◌+◌, ◌*◌, List, [], ◌∷◌, ◌++◌, map, cond, not, length, take, drop, leb, ltb, eqb}
use Rattle.laws.specs.Over.{overwrite}
use Rattle.laws.specs.Gather.{gather}
use Rattle.table.specs.Table.{Table, Defaults, decode_by}
use Rattle.table.specs.Judge.{judged}
use Rattle.table.specs.declared.Answer.{Answer}
use Rattle.reader.specs.declared.Binding.{Binding}
use Rattle.reader.specs.Events as scene
use Rattle.model.specs.Theory.{Record}
use Rattle.model.specs.Tree.{start, text, end}
use Rattle.model.specs.Elements.{element_of}
use Rattle.model.specs.Records.{Body}
use Rattle.model.specs.Stream.{Entry, entries_at, entered, written, after}
use Rattle.model.specs.Dispatch.{dispatch, record_bytes_of}
use Rattle.sessions.specs.Sessions.{reader_of, state_of, fresh_of, with_place, with_end, with_start}
use Rattle.sessions.specs.Coherence.{coherent}
use Rattle.sessions.specs.Session.{Session}

-- an event's place, which 25 has: "< of the tag, or first text byte"
abbrev pub event_place : scene.Event → ℕ
event_place (scene.start e) = e.at
event_place (scene.text w) = w.at
event_place (scene.end part at) = at

-- What a coherent session does next: a refusal and its place; 9 and its place; or an event: the place that 25 would have, its records, and the
-- session behind it. No output comes into it
pub data Plan : Type 0 where
  refused : ℕ → ℕ → Plan
  finished : ℕ → Plan
  event : ℕ → List (Record Body ℕ) → Session → Plan

-- "21 depth 65; 22 a 65th open binding; 23 a 17th strand; 24 a unit past 65,535 (< of the tag)", in this order
unfoldable pub start_plan : Table → List ℕ → Session → scene.Start → List Binding → ℕ → Plan
start_plan t s z e own place =
    let σ = element_of t s e in
    let state = state_of t s z in
    let behind = after (dispatch t) state (start σ) in
    cond (leb 64 z.scope.depth) (refused 21 e.at)
    (cond (ltb 64 (z.scope.bound + length own)) (refused 22 e.at)
    (cond (ltb 16 (length (entries_at (dispatch t) state.levels σ))) (refused 23 e.at)
    (cond (ltb 65536 behind.units) (refused 24 e.at)
    (event e.at (written (dispatch t) state (start σ))
    (with_start z place e.empty behind.units e.name own σ.space (map (λ (e : Entry). e.strand) (entered (dispatch t) state σ)))))))

-- the declarations of the innermost open element
abbrev pub own_declarations : List scene.Open → List Binding
own_declarations [] = []
own_declarations (o ∷ os) = o.declarations

-- of what the reader reads next
abbrev pub event_plan : Table → List ℕ → Session → scene.Event → scene.ReaderState → Plan
event_plan t s z (scene.start e) z' = start_plan t s z e (own_declarations z'.opened) z'.place
event_plan t s z (scene.text w) z' =
    event w.at (written (dispatch t) (state_of t s z) (text w)) (with_place z z'.place)
event_plan t s z (scene.end part at) z' =
    event at (written (dispatch t) (state_of t s z) (end part)) (with_end z z'.place z'.closed)

abbrev pub plan_by : Table → List ℕ → Session → scene.Next → Plan
plan_by t s z (scene.event e z') = event_plan t s z e z'
plan_by t s z (scene.refusal n p) = refused n p
plan_by t s z (scene.finished p) = finished p

unfoldable pub plan_of : Table → List ℕ → Session → Plan
plan_of t s z = plan_by t s z (scene.next s (reader_of z))

-- What a step hands back: the answer, the session, and the output
pub record Step : Type 0 where
  pub answer : Answer
  pub session : Session
  pub output : List ℕ

abbrev pub answered : ℕ → ℕ → ℕ → ℕ → Answer
answered number place events records = record { number = number; place = place; events = events; records = records }

-- "A step with any number but 0 returns the session unchanged and writes nothing"
abbrev pub refused_step : ℕ → ℕ → Session → List ℕ → Step
refused_step number place z out = record { answer = answered number place 0 0; session = z; output = out }

-- "25 the event's records exceed the output"; "records from the output's first byte", "Output bytes past the records keep their values"
abbrev pub event_step : ℕ → List (Record Body ℕ) → Session → Session → List ℕ → Step
event_step at records next z out =
    cond (ltb (length out) (16 * length records)) (refused_step 25 at z out)
    (record { answer = answered 0 next.place 1 (length records); session = next; output = overwrite out 0 (gather record_bytes_of records) })

abbrev pub planned : Plan → Session → List ℕ → Step
planned (refused n p) z out = refused_step n p z out
planned (finished p) z out = refused_step 9 p z out
planned (event at records next) z out = event_step at records next z out

-- "7 scene over 16,777,215 bytes (0)"
abbrev pub longest : ℕ
longest = 16777215

-- "Order: 10 short, 11 header, 10, 11, 12, 7, 20; then 2, 3 or 1 by first byte; then 4; 5, 6, 21, 22, 23, 24; 25". Under these defaults; the calls are
-- under the standard's
unfoldable pub step_of : Defaults → List ℕ → List ℕ → Session → List ℕ → Step
step_of d table s z out =
    cond (not (eqb (judged table).number 0)) (refused_step (judged table).number (judged table).place z out)
    (cond (ltb longest (length s)) (refused_step 7 0 z out)
    (cond (not (coherent (decode_by d table) s z)) (refused_step 20 0 z out)
    (planned (plan_of (decode_by d table) s z) z out)))

-- "lends the rest of the output, from the records written so far, to each step"
abbrev pub rest_of : Step → List ℕ
rest_of r = drop (16 * r.answer.records) r.output

-- two calls as one, the second on the session that the first handed back and lent the rest of its output: "events (steps that gave 0), records (those
-- written)", "records joined"
abbrev pub joined : Step → Step → Step
joined first later =
    record {
      answer = answered later.answer.number later.answer.place (first.answer.events + later.answer.events) (first.answer.records + later.answer.records);
      session = later.session;
      output = take (16 * first.answer.records) first.output ++ later.output;
    }

-- Advance: steps from a session, "records joined, until a step's number is not 0" or so many were taken; "if 0 the new session's place"
unfoldable pub advance_of : Defaults → ℕ → List ℕ → List ℕ → Session → List ℕ → Step
advance_of d zero table s z out = record { answer = answered 0 z.place 0 0; session = z; output = out }
advance_of d (suc n) table s z out =
    let r = step_of d table s z out in
    cond (eqb r.answer.number 0) (joined r (advance_of d n table s r.session (rest_of r))) r

-- What a run hands back: the answer and the output
pub record Run : Type 0 where
  pub answer : Answer
  pub output : List ℕ

abbrev pub run_by : Step → Run
run_by r = record { answer = r.answer; output = r.output }

-- "Run: steps from fresh, records joined, until a step's number is not 0": each event reads a byte or ends an awaited end, so that many steps suffice
unfoldable pub run_of : Defaults → List ℕ → List ℕ → List ℕ → Run
run_of d table s out = run_by (advance_of d (2 * length s + 2) table s fresh_of out)

-- an answer, a session and an output, as what a step hands back
abbrev pub given : Answer → Session → List ℕ → Step
given a z out = record { answer = a; session = z; output = out }

-- what a run hands back, with the output that it was lent
abbrev pub ran : Answer → List ℕ → Run
ran r out = record { answer = r; output = out }
