-- Limits, both ways: how a run ends by the limits that the scene's events pass.
--     taken_within     the events that a run took pass no limit
--     whole_within     a run that gives 9 passes no limit
--     limited_run      one that gives 21 to 24 stopped at the first start that passes a limit, by that
--     run_refused      a run on a refused table, and over a scene that is too long
--     run_ends         where the output has room for the events before the first limit, number and place are those of `run_end`
--     run_full         where it has not: 25
--     finished_exactly, limited_exactly, refused_exactly     where it has room for all events: which number exactly when
use Prim.Native.Nat.{ℕ, suc, ◌+◌, ◌*◌, ◌-◌, ◌≤◌, ◌<◌}
use mathlib.Core.Path.{◌≡◌, refl, sym, ap, subst, ◌∙◌}
use mathlib.Core.List.{List, ◌++◌}
use mathlib.Core.Bool.{true}
use mathlib.Core.Logic.{⊎_elim}
use mathlib.Core.Option.{Option, none, some}
use native.Mathlib.Omega.{arith}
use borrow.Author.Tests.{eq-eqb}
use lib.ListN.{length, drop, get_or, get_or-eq_default}
use Rattle.laws.specs.Reading.{le_or_lt}
use Rattle.table.specs.Table.{Table, decode, standard}
use Rattle.table.specs.Judge.{judged, Accepted}
use Rattle.reader.specs.Events as scene
use Rattle.reader.specs.Events.{fresh_reader, events, last_of}
use Rattle.reader.specs.Spans.{span}
use Rattle.reader.proofs.Held.{held_fresh, numbered}
use Rattle.reader.proofs.EventsFirst.{state_held, events_end}
use Rattle.model.specs.Dispatch.{expected}
use Rattle.model.proofs.Tables.{one}
use Rattle.sessions.specs.Sessions.{reader_of, fresh_of}
use Rattle.sessions.specs.Stepping.{event_place, Step, answered, refused_step, longest, step_of, advance_of, Run, run_by, run_of, ran}
use Rattle.sessions.specs.Session.{Session}
use Rattle.sessions.proofs.Advancing.{advance_stops}
use Rattle.demands.specs.Scenes.{model_count}
use Rattle.demands.specs.Limits.{passed, WithinFirst, Within, FirstLimit, first_past, events_within, read_end, run_end}
use Rattle.demands.proofs.Goes.{goes_on}
use Rattle.demands.proofs.Expected.{count_grows}
use Rattle.demands.proofs.Limits.{passed_number, next_event, taken_passed, FirstPast, first_past_lem, before_by, end_by}
use Rattle.demands.specs.Answers as step
use Rattle.demands.specs.Answers.{Ready, Starts, Answered, bad_table, long_scene, bad_session, unread, all_read, no_room, wrote}
use Rattle.demands.proofs.Refusals.{judges, answered_by, exactly_table, exactly_7, exactly_9}
use Rattle.demands.proofs.Runs.{Ended, run_ended, scenes}
use Rattle.demands.proofs.Accepted.{few, ready, last, limited, stopped, through, reads, no_room_first}

-- ---- no event is taken
stops_at_once : (table s out : List ℕ) (number place : ℕ) → (number ≡ 0 → ⊥) → step_of standard table s fresh_of out ≡ refused_step number place fresh_of out → run_of standard table s out ≡ ran (answered number place 0 0) out
unfolding run_of
stops_at_once table s out number place n q = let i : 2 * length s + 2 ≡ suc (2 * length s + 1) = omega arith in ap run_by (ap (λ (k : ℕ). advance_of standard k table s fresh_of out) i ∙ advance_stops (2 * length s + 1) table s fresh_of out _ q n)

-- "10 .. (0); 11 .. (0); 12 .. (0)", by judge; "7 scene over 16,777,215 bytes (0)". Nothing is counted, the output is as lent
pub run_refused : (table s out : List ℕ) →
    (((judged table).number ≡ 0 → ⊥) → run_of standard table s out ≡ ran (answered (judged table).number (judged table).place 0 0) out)
    × ((judged table).number ≡ 0 → longest < length s → run_of standard table s out ≡ ran (answered 7 0 0 0) out)
run_refused table s out = (
  λ n.
      let k = ⊎_elim (λ e. absurd (n e)) (λ k. k) (judges table) in
      stops_at_once table s out (judged table).number (judged table).place n ((exactly_table table s fresh_of out (judged table).number k.0 k.1).when refl),
  λ e l. stops_at_once table s out 7 0 (λ z. absurd (omega arith)) ((exactly_7 table s fresh_of out).when (e, l)),
)

-- ---- every run
-- what the run answers is what its last step answers
module _ (table s out : List ℕ) (e : Ended table s out (run_of standard table s out)) where
  number_is : (run_of standard table s out).answer.number ≡ e.number
  number_is = ap (λ (r : Run). r.answer.number) e.is

  place_is : (run_of standard table s out).answer.place ≡ e.place
  place_is = ap (λ (r : Run). r.answer.place) e.is

  events_are : (run_of standard table s out).answer.events ≡ e.events
  events_are = ap (λ (r : Run). r.answer.events) e.is

  past : Accepted table ≡ true → WithinFirst (decode table) s e.events
  past ok = taken_passed table ok s e.session e.events e.records e.reached

pub taken_within : (table s out : List ℕ) → Accepted table ≡ true → WithinFirst (decode table) s (run_of standard table s out).answer.events
taken_within table s out ok =
    let e = run_ended table s out in
    subst (WithinFirst (decode table) s) (sym (events_are table s out e)) (past table s out e ok)

accepted_by_lem : (table s : List ℕ) (z : Session) → Ready table s z → Accepted table ≡ true
accepted_by_lem table s z r = eq-eqb (judged table).number 0 r.accepted

-- a run that gives 9 passes no limit
pub whole_within : (table s out : List ℕ) → (run_of standard table s out).answer.number ≡ 9 → Within (decode table) s
whole_within table s out nine =
    let e = run_ended table s out in
    let said : e.number ≡ 9 = sym (number_is table s out e) ∙ nine in
    let r = (exactly_9 table s e.session (drop (16 * length e.records) out)).only (ap (λ (x : Step). x.answer.number) e.last ∙ said) in
    let all = ((scenes table s out).whole nine).0 in
    subst (WithinFirst (decode table) s) all (taken_within table s out (accepted_by_lem table s e.session r.0))

-- a step that gives 21 to 24 read a start
record AtStart (table s : List ℕ) (z : Session) : Type 0 where
  ready : Ready table s z
  tag : scene.Start
  opens : scene.Open
  starts : Starts s z tag opens

at_start : {table s : List ℕ} {z : Session} {out : List ℕ} {r : Step} → Answered table s z out r → 21 ≤ r.answer.number → r.answer.number ≤ 24 → AtStart table s z
at_start (bad_table a b) lo hi = absurd (omega arith)
at_start (long_scene a l) lo hi = absurd (omega arith)
at_start (bad_session a l c) lo hi = absurd (omega arith)
at_start (unread r n p q a b) lo hi = absurd (omega arith)
at_start (all_read r p q) lo hi = absurd (omega arith)
at_start (step.limited r e o q n l a b) lo hi = record { ready = r; tag = e; opens = o; starts = q }
at_start (no_room r p rs z'' q l) lo hi = absurd (omega arith)
at_start (wrote r p rs z'' q l) lo hi = absurd (omega arith)

-- "(< of the tag)"
pub limited_run : (table s out : List ℕ) →
    let a = (run_of standard table s out).answer in
    21 ≤ a.number → a.number ≤ 24 → FirstLimit (decode table) s a.number a.place
limited_run table s out lo hi = by (run_ended table s out)
  where
    t : Table
    t = decode table

    d : scene.Event
    d = scene.text (span 0 0)

    by : (e : Ended table s out (run_of standard table s out)) → FirstLimit t s (run_of standard table s out).answer.number (run_of standard table s out).answer.place
    by e =
        let rest = drop (16 * length e.records) out in
        let number : (run_of standard table s out).answer.number ≡ e.number = number_is table s out e in
        let answer : Answered table s e.session rest (refused_step e.number e.place e.session rest) = subst (Answered table s e.session rest) e.last (answered_by table s e.session rest) in
        let a = at_start answer (omega arith) (omega arith) in
        let ok = accepted_by_lem table s e.session a.ready in
        let short : length s ≤ 16777215 = a.ready.short in
        let lt = (goes_on s e.events (reader_of e.session) (scene.start a.tag) a.starts.behind e.reached.reader a.starts.reads).inside in
        let is : get_or (events s) e.events d ≡ scene.start a.tag = next_event t s e.session e.events e.records e.reached (scene.start a.tag) a.starts.behind a.starts.reads d in
        let some-limit : passed t s e.events ≡ 0 → ⊥ = λ n. omega (arith, ap (λ (r : Step). r.answer.number) (stopped table s out ok short e lt n d).1) in
        let so = limited table s out ok short e lt some-limit d in
        record {
          before = e.events;
          earlier = past table s out e ok;
          tag = a.tag;
          event_is = is;
          number_is = number ∙ ap (λ (r : Step). r.answer.number) so;
          place_is = place_is table s out e ∙ ap (λ (r : Step). r.answer.place) so ∙ ap event_place is;
          lowest = lo;
          highest = hi;
        }

-- a limit that some event passes
pub limit_past : (t : Table) (s : List ℕ) (n p : ℕ) → FirstLimit t s n p → Within t s → ⊥
limit_past t s n p f w = omega (arith, f.number_is, f.lowest, w f.before inside)
  where
    inside : f.before < length (events s)
    inside =
        ⊎_elim
        (λ le. let same : scene.text (span 0 0) ≡ scene.start f.tag = sym (get_or-eq_default (events s) (scene.text (span 0 0)) le) ∙ f.event_is in let y : ◌≡◌ {A = ℕ} 0 1 = cc in absurd (omega arith))
        (λ lt. lt)
        (le_or_lt (length (events s)) f.before)

-- ---- where the output has room
module _ (table s out : List ℕ) (ok : Accepted table ≡ true) (short : length s ≤ 16777215) where
  -- behind all events, as reading ends
  read_by : (e : Ended table s out (run_of standard table s out)) → e.events ≡ length (events s) → (x : scene.Next) → last_of s ≡ x → (e.number ≡ (read_end x).number) × (e.place ≡ (read_end x).place)
  read_by e all (scene.event v z') is =
      let q : scene.next s (reader_of e.session) ≡ scene.event v z' = reads table s out ok short e all ∙ is in
      absurd (omega (arith, (goes_on s e.events (reader_of e.session) v z' e.reached.reader q).inside))
  read_by e all (scene.refusal n p) is =
      let q : scene.next s (reader_of e.session) ≡ scene.refusal n p = reads table s out ok short e all ∙ is in
      let i = numbered s (reader_of e.session) e.reached.sound.held n p q in
      let so = last table s out ok short e (unread (ready table s out ok short e) n p q i.some i.few) in
      (ap (λ (x : Step). x.answer.number) so, ap (λ (x : Step). x.answer.place) so)
  read_by e all (scene.finished p) is =
      let so = last table s out ok short e (all_read (ready table s out ok short e) p (reads table s out ok short e all ∙ is)) in
      (ap (λ (x : Step). x.answer.number) so, ap (λ (x : Step). x.answer.place) so)

  ends_by : (o : Option ℕ) → FirstPast (decode table) s o → 16 * model_count (decode table) s (before_by s o) ≤ length out → ((run_of standard table s out).answer.number ≡ (end_by (decode table) s o).number) × ((run_of standard table s out).answer.place ≡ (end_by (decode table) s o).place) × ((run_of standard table s out).answer.events ≡ before_by s o)
  ends_by none f room =
      let e = run_ended table s out in
      let all : e.events ≡ length (events s) = omega (arith, few table s out ok short e, through table s out ok short e (length (events s)) (omega arith) f room) in
      let x = read_by e all (last_of s) refl in
      (number_is table s out e ∙ x.0, place_is table s out e ∙ x.1, events_are table s out e ∙ all)
  ends_by (some k) f room =
      let e = run_ended table s out in
      let le = through table s out ok short e k (omega (arith, f.0)) f.2 room in
      let here : e.events ≡ k = ⊎_elim (λ ge. omega arith) (λ lt. absurd (f.1 (past table s out e ok k lt))) (le_or_lt e.events k) in
      let so = limited table s out ok short e (omega (arith, f.0)) (subst (λ (i : ℕ). passed (decode table) s i ≡ 0 → ⊥) (sym here) f.1) (scene.text (span 0 0)) in (
        number_is table s out e ∙ ap (λ (x : Step). x.answer.number) so ∙ ap (passed (decode table) s) here,
        place_is table s out e ∙ ap (λ (x : Step). x.answer.place) so ∙ ap (λ (i : ℕ). event_place (get_or (events s) i (scene.text (span 0 0)))) here,
        events_are table s out e ∙ here,
      )

  -- with room for the records of the events before the first limit: number, place and events
  pub run_ends : 16 * model_count (decode table) s (events_within (decode table) s) ≤ length out → ((run_of standard table s out).answer.number ≡ (run_end (decode table) s).number) × ((run_of standard table s out).answer.place ≡ (run_end (decode table) s).place) × ((run_of standard table s out).answer.events ≡ events_within (decode table) s)
  unfolding run_end events_within
  run_ends room = ends_by (first_past (decode table) s (length (events s)) 0) (first_past_lem (decode table) s) room

  -- without: 25 at the first event whose records do not fit
  pub run_full : length out < 16 * model_count (decode table) s (events_within (decode table) s) → (d : scene.Event) →
      (k : ℕ) × (k < events_within (decode table) s) × (16 * model_count (decode table) s k ≤ length out) × (length out < 16 * model_count (decode table) s (k + 1))
      × (run_of standard table s out ≡ record { answer = answered 25 (event_place (get_or (events s) k d)) k (model_count (decode table) s k); output = expected (decode table) s k ++ drop (16 * model_count (decode table) s k) out })
  unfolding events_within
  run_full full d = by (first_past (decode table) s (length (events s)) 0) (first_past_lem (decode table) s) full
    where
      by : (o : Option ℕ) → FirstPast (decode table) s o → length out < 16 * model_count (decode table) s (before_by s o) →
          (k : ℕ) × (k < before_by s o) × (16 * model_count (decode table) s k ≤ length out) × (length out < 16 * model_count (decode table) s (k + 1))
          × (run_of standard table s out ≡ record { answer = answered 25 (event_place (get_or (events s) k d)) k (model_count (decode table) s k); output = expected (decode table) s k ++ drop (16 * model_count (decode table) s k) out })
      by none f full = no_room_first table s out ok short (length (events s)) (omega arith) f full d
      by (some n) f full = no_room_first table s out ok short n (omega (arith, f.0)) f.2 full d

  -- with room for the records of all events
  module _ (room : 16 * model_count (decode table) s (length (events s)) ≤ length out) where
    room_for : (o : Option ℕ) → FirstPast (decode table) s o → 16 * model_count (decode table) s (before_by s o) ≤ length out
    room_for none f = room
    room_for (some k) f =
        let rise = count_grows (decode table) s (one table ok) k (length (events s) - k) (omega (arith, f.0)) in
        let same : model_count (decode table) s (k + (length (events s) - k)) ≡ model_count (decode table) s (length (events s)) = ap (model_count (decode table) s) (omega (arith, f.0)) in
        omega arith

    -- so that `run_ends` is of it
    pub room_within : 16 * model_count (decode table) s (events_within (decode table) s) ≤ length out
    unfolding events_within
    room_within = room_for (first_past (decode table) s (length (events s)) 0) (first_past_lem (decode table) s)

    ends_so : (o : Option ℕ) → FirstPast (decode table) s o → ((run_of standard table s out).answer.number ≡ (end_by (decode table) s o).number) × ((run_of standard table s out).answer.place ≡ (end_by (decode table) s o).place)
    ends_so o f = let x = ends_by o f (room_for o f) in (x.0, x.1)

    -- 9 exactly where no event passes a limit, of a scene that the reader finishes
    pub finished_exactly : last_of s ≡ scene.finished (length s) → (Within (decode table) s → (run_of standard table s out).answer.number ≡ 9) × ((run_of standard table s out).answer.number ≡ 9 → Within (decode table) s)
    finished_exactly fin = (λ w. (ends_so none w).0 ∙ ap (λ (x : scene.Next). (read_end x).number) fin, whole_within table s out)

    -- 21 to 24 exactly where some event passes a limit; then at the first start that does
    pub limited_exactly : ((Within (decode table) s → ⊥) → FirstLimit (decode table) s (run_of standard table s out).answer.number (run_of standard table s out).answer.place) × (21 ≤ (run_of standard table s out).answer.number → (run_of standard table s out).answer.number ≤ 24 → Within (decode table) s → ⊥)
    limited_exactly = (
      λ n. by n (first_past (decode table) s (length (events s)) 0) (first_past_lem (decode table) s),
      λ lo hi. limit_past (decode table) s (run_of standard table s out).answer.number (run_of standard table s out).answer.place (limited_run table s out lo hi),
    )
      where
        by : (Within (decode table) s → ⊥) → (o : Option ℕ) → FirstPast (decode table) s o → FirstLimit (decode table) s (run_of standard table s out).answer.number (run_of standard table s out).answer.place
        by n none f = absurd (n f)
        by n (some k) f =
            let i = passed_number (decode table) s k f.1 in
            let so = (ends_so (some k) f).0 in
            limited_run table s out (omega (arith, i.0)) (omega (arith, i.1))

    -- the reader's number and place exactly where no event passes a limit, of a scene that it refuses
    pub refused_exactly : (n p : ℕ) → last_of s ≡ scene.refusal n p → (Within (decode table) s → ((run_of standard table s out).answer.number ≡ n) × ((run_of standard table s out).answer.place ≡ p)) × ((run_of standard table s out).answer.number ≡ n → Within (decode table) s)
    refused_exactly n p is =
        let w = events_end s in
        let i = numbered s w.0 (state_held s w.0 (length (events s)) fresh_reader w.1 (held_fresh s)) n p (w.2 ∙ is) in (
          λ h. let x = ends_so none h in (x.0 ∙ ap (λ (y : scene.Next). (read_end y).number) is, x.1 ∙ ap (λ (y : scene.Next). (read_end y).place) is),
          λ q. subst (WithinFirst (decode table) s) ((scenes table s out).read (omega (arith, i.few))).0 (taken_within table s out ok),
        )
