-- Demand 2: what run hands back for every table, scene and output.
--     Ended, run_ended     where a run stops, and by which step
--     scenes               its records are the model's of the events that it took; 1 to 6 and 9 are the reader's
use Prim.Native.Nat.{ℕ, ◌+◌, ◌*◌, ◌≤◌}
use mathlib.Core.Path.{◌≡◌, refl, sym, ap, subst, ◌∙◌}
use mathlib.Core.List.{List, [], ◌++◌}
use mathlib.Core.Logic.{⊎_elim}
use mathlib.Core.Option.{some}
use native.Mathlib.Omega.{arith}
use lib.ListN.{length, take, drop}
use Rattle.laws.specs.Over.{overwrite}
use Rattle.laws.specs.Gather.{gather}
use Rattle.table.specs.Table.{Table, decode, standard}
use Rattle.reader.specs.Events.{ReaderState, fresh_reader, Next, refusal, finished, next, event_then, events, last_then, last_of}
use Rattle.reader.proofs.Held.{finished_at}
use Rattle.reader.proofs.Progress.{history, history_next, ending, last_is}
use Rattle.reader.proofs.EventsFirst.{state_after, state_rest, ending_is}
use Rattle.model.specs.Theory.{Record}
use Rattle.model.specs.Records.{Body}
use Rattle.model.specs.Dispatch.{record_bytes_of, expected}
use Rattle.sessions.specs.Sessions.{reader_of, fresh_of}
use Rattle.sessions.specs.Stepping.{answered, refused_step, step_of, Run, run_by, run_of}
use Rattle.sessions.specs.Session.{Session}
use Rattle.sessions.proofs.Room.{records_length}
use Rattle.demands.specs.Runs.{SceneRun}
use Rattle.demands.proofs.Goes.{state_count}
use Rattle.demands.proofs.Expected.{expected_whole}
use Rattle.demands.proofs.Bytes.{laid, first_bytes, behind_laid}
use Rattle.demands.proofs.Reached.{Reached, reached_fresh, few_events, reached_expected, counted}
use Rattle.demands.proofs.Outcomes.{Said}
use Rattle.demands.proofs.Advances.{Refused, advanced}

abbrev pub answer : ℕ → ℕ → ℕ → List (Record Body ℕ) → List ℕ → Run
answer number place events rs out = record { answer = answered number place events (length rs); output = laid rs out }

-- where a run stops: behind k events, by a step that is refused
pub record Ended (table s out : List ℕ) (r : Run) : Type 0 where
  pub session : Session
  pub events : ℕ
  pub records : List (Record Body ℕ)
  pub reached : Reached (decode table) s session events records
  pub room : 16 * length records ≤ length out
  pub number : ℕ
  pub place : ℕ
  pub said : Said s (reader_of session) number place
  pub last : step_of standard table s session (drop (16 * length records) out) ≡ refused_step number place session (drop (16 * length records) out)
  pub is : r ≡ answer number place events records out

pub laid_expected : (t : Table) (s : List ℕ) (z : Session) (k : ℕ) (rs : List (Record Body ℕ)) → Reached t s z k rs → (out : List ℕ) → laid rs out ≡ expected t s k ++ drop (16 * length rs) out
unfolding overwrite
laid_expected t s z k rs h out =
    let n : 0 + length (gather record_bytes_of rs) ≡ 16 * length rs = omega (arith, records_length rs) in
    ap (λ (i : ℕ). gather record_bytes_of rs ++ drop i out) n ∙ ap (λ (l : List ℕ). l ++ drop (16 * length rs) out) (reached_expected t s z k rs h)

-- the reader says how reading ends
pub ends_here : (s : List ℕ) (k : ℕ) (w : ReaderState) (x : Next) → state_after k s fresh_reader ≡ some w → next s w ≡ x → event_then (λ (z : ReaderState). history s z) x ≡ [] → last_then (λ (z : ReaderState). ending s z) x ≡ x → (k ≡ length (events s)) × (last_of s ≡ x)
ends_here s k w x q n none same =
    let left : history s w ≡ [] = history_next s w ∙ ap (event_then (λ (z : ReaderState). history s z)) n ∙ none in
    (omega (arith, state_count s k w q, ap length left), last_is s ∙ (state_rest s w k fresh_reader q).ends ∙ ending_is s w x n ∙ same)

-- ---- the run
module _ (table s out : List ℕ) where
  pub run_ended : Ended table s out (run_of standard table s out)
  unfolding run_of
  run_ended =
      let a = advanced table s (2 * length s + 2) fresh_of 0 [] (reached_fresh (decode table) s) out in
      let few : a.events ≤ 2 * length s = omega (arith, a.left) in
      let stop : Refused table s a.session (drop (16 * length a.records) out) a.number a.place = ⊎_elim (λ e. absurd (omega arith)) (λ e. e) a.stop in
      record {
        session = a.session;
        events = a.events;
        records = a.records;
        reached = subst (λ (k : ℕ). Reached (decode table) s a.session k a.records) (omega arith) a.reached;
        room = a.room;
        number = a.number;
        place = a.place;
        said = stop.said;
        last = stop.step;
        is = ap run_by a.is;
      }

-- ---- where it stopped
stops : (table s out : List ℕ) (r : Run) → Ended table s out r → SceneRun table s out r
stops table s out r e =
    subst (SceneRun table s out) (sym e.is) (record {
      not_event = e.said.not_event;
      not_20 = e.said.not_20;
      few = few_events t s z k rs e.reached;
      counted = counted t s z k rs e.reached;
      room = e.room;
      records = records;
      rest = behind_laid rs out e.room;
      read = λ n. let q = e.said.reads n in ends_here s k (reader_of z) (refusal e.number e.place) e.reached.reader q refl refl;
      whole = λ n.
          let q = e.said.ends n in
          let at_end : e.place ≡ length s = finished_at s (reader_of z) e.reached.sound.held e.place q in
          let x = ends_here s k (reader_of z) (finished e.place) e.reached.reader q refl refl in
          let fin : last_of s ≡ finished (length s) = x.1 ∙ ap finished at_end in
          (x.0, fin, at_end, records ∙ ap (expected t s) x.0 ∙ expected_whole t s fin);
    })
  where
    t : Table
    t = decode table

    z : Session
    z = e.session

    k : ℕ
    k = e.events

    rs : List (Record Body ℕ)
    rs = e.records

    records : take (16 * length rs) (laid rs out) ≡ expected t s k
    records = first_bytes out rs ∙ reached_expected t s z k rs e.reached

-- every run's records are the model's of the events that it counts, and the rest of the output is as it was
pub scenes : (table s out : List ℕ) → SceneRun table s out (run_of standard table s out)
scenes table s out = stops table s out (run_of standard table s out) (run_ended table s out)
