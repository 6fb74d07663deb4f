-- Demand 3 for calls of step and of advance: the records of all calls, joined, are the model's of the last scene's first events, as many as were counted.
--     calls                one claim about the whole list
--     finished_calls       the same where the last call gives 9: of the whole scene
--     no_later_call_byte   a longer last scene or further calls never change, withdraw or precede a record already handed out
use Prim.Native.Nat.{ℕ, ◌+◌, ◌*◌, ◌≤◌}
use mathlib.Core.Path.{◌≡◌, refl, sym, ap, subst, ◌∙◌}
use mathlib.Core.List.{List, [], ◌∷◌, ◌++◌, map, append_assoc, append-nil}
use mathlib.Core.Logic.{⊎_elim}
use native.Mathlib.Nat.{add-zero}
use native.Mathlib.Omega.{arith}
use lib.ListN.{length, take}
use Rattle.laws.specs.Gather.{gather, total}
use Rattle.laws.specs.Members.{All}
use Rattle.laws.proofs.Gather.{gather_append}
use Rattle.table.specs.Table.{decode}
use Rattle.reader.specs.Events.{finished, next, events}
use Rattle.reader.proofs.Held.{finished_at}
use Rattle.model.specs.Theory.{Record}
use Rattle.model.specs.Records.{Body}
use Rattle.model.specs.Dispatch.{record_bytes_of, expected}
use Rattle.sessions.specs.Sessions.{reader_of, fresh_of}
use Rattle.sessions.specs.Stepping.{Step}
use Rattle.sessions.specs.Session.{Session}
use Rattle.sessions.proofs.Advancing.{advance_one}
use Rattle.demands.specs.Calls.{Call, BeginsWith, GrowingFrom, Growing, last_scene_from, last_scene, records_of, number_from, last_number, AnyCall, of_step, of_advance, call_of, handed_back, calls_from, session_after, events_in, all_records}
use Rattle.demands.specs.Scenes.{whole_model}
use Rattle.demands.proofs.Bytes.{laid, first_bytes}
use Rattle.demands.proofs.Expected.{expected_whole}
use Rattle.demands.proofs.Reached.{Reached, reached_fresh, few_events, reached_more, reached_expected}
use Rattle.demands.proofs.Advances.{Advanced, advanced}
use Rattle.demands.proofs.Runs.{ends_here}

abbrev NotTwenty : Step → Type 0
NotTwenty r = r.answer.number ≡ 20 → ⊥

-- the reader has nothing more to read
abbrev Finishes : List ℕ → Session → Type 0
Finishes s z = (p : ℕ) × (next s (reader_of z) ≡ finished p)

-- behind some calls from a session on: where the session is in the last scene, with the records that they handed out; and where the last number is 9
pub record Called (table before : List ℕ) (z : Session) (s : List ℕ) (k : ℕ) (out : List (Record Body ℕ)) (rs : List Step) (session : Session) : Type 0 where
  pub numbers : All NotTwenty rs
  pub records : List (Record Body ℕ)
  pub reached : Reached (decode table) s session (k + events_in rs) (out ++ records)
  pub joined : all_records rs ≡ gather record_bytes_of records
  pub finishes : (n : ℕ) → (n ≡ 9 → Finishes before z) → number_from n rs ≡ 9 → Finishes s session

-- a step is an advance by one
abbrev most_of : AnyCall → ℕ
most_of (of_step c) = 1
most_of (of_advance most c) = most

call_advanced : (table : List ℕ) (c : AnyCall) (z : Session) (k : ℕ) (out : List (Record Body ℕ)) → Reached (decode table) (call_of c).scene z k out → Advanced table (call_of c).scene z k out (most_of c) (call_of c).output (handed_back table z c)
call_advanced table (of_step c) z k out h = rw (← advance_one table c.scene z c.output) (advanced table c.scene 1 z k out h c.output)
call_advanced table (of_advance most c) z k out h = advanced table c.scene most z k out h c.output

called : (table : List ℕ) (calls : List AnyCall) (s : List ℕ) (z : Session) (k : ℕ) (out : List (Record Body ℕ)) → Reached (decode table) s z k out → GrowingFrom s (map call_of calls) → Called table s z (last_scene_from s (map call_of calls)) k out (calls_from table z calls) (session_after table z calls)
unfolding calls_from events_in all_records total gather
called table [] s z k out h g =
    record { numbers = tt; records = []; reached = rw (add-zero k, append-nil) h; joined = refl; finishes = λ n f q. f q }
called table (c ∷ cs) s z k out h g =
    by (call_advanced table c z k out there) (λ w j more r. called table cs (call_of c).scene w j more r g.1)
  where
    s' : List ℕ
    s' = (call_of c).scene

    there : Reached (decode table) s' z k out
    there = subst (λ (x : List ℕ). Reached (decode table) x z k out) (sym g.0.1) (reached_more (decode table) s z k out h g.0.0)

    by : {r : Step} → Advanced table s' z k out (most_of c) (call_of c).output r
        → ((w : Session) (j : ℕ) (more : List (Record Body ℕ)) → Reached (decode table) s' w j more → Called table s' w (last_scene_from s' (map call_of cs)) j more (calls_from table w cs) (session_after table w cs))
        → Called table s z (last_scene_from s' (map call_of cs)) k out (r ∷ calls_from table r.session cs) (session_after table r.session cs)
    by a ih =
        let i = ih a.session (k + a.events) (out ++ a.records) a.reached in
        let later = calls_from table a.session cs in
        let count : k + a.events + events_in later ≡ k + (a.events + events_in later) = omega arith in
        let bytes : take (16 * length a.records) (laid a.records (call_of c).output) ++ all_records later ≡ gather record_bytes_of a.records ++ gather record_bytes_of i.records =
        rw (first_bytes (call_of c).output a.records, i.joined) in
        rw a.is (record {
          numbers = (⊎_elim (λ e. omega arith) (λ e. e.said.not_20) a.stop, i.numbers);
          records = a.records ++ i.records;
          reached = rw (← count, ← append_assoc) i.reached;
          joined = bytes ∙ sym (gather_append record_bytes_of a.records i.records);
          finishes = λ n f q. i.finishes a.number (λ e. (a.place, ⊎_elim (λ z. absurd (omega arith)) (λ x. x.said.ends e) a.stop)) q;
        })

pub growing_from : (calls : List Call) → Growing calls → GrowingFrom [] calls
growing_from [] g = tt
growing_from (c ∷ cs) g = ((c.scene, refl), g)

module _ (table : List ℕ) (calls : List AnyCall) (g : Growing (map call_of calls)) where
  abbrev rs : List Step
  rs = calls_from table fresh_of calls

  abbrev last : List ℕ
  last = last_scene (map call_of calls)

  abbrev session : Session
  session = session_after table fresh_of calls

  pub all_called : Called table [] fresh_of last 0 [] rs session
  all_called = called table calls [] fresh_of 0 [] (reached_fresh (decode table) []) (growing_from (map call_of calls) g)

  pub all_reached : Reached (decode table) last session (events_in rs) all_called.records
  all_reached = subst (λ (k : ℕ). Reached (decode table) last session k all_called.records) (omega arith) all_called.reached

pub calls : (table : List ℕ) (calls : List AnyCall) → Growing (map call_of calls) →
    let rs = calls_from table fresh_of calls in
    let last = last_scene (map call_of calls) in
    let k = events_in rs in
    All (λ (r : Step). r.answer.number ≡ 20 → ⊥) rs × (k ≤ length (events last)) × (all_records rs ≡ expected (decode table) last k)
calls table cs g =
    let r = all_called table cs g in
    let h = all_reached table cs g in
    (r.numbers, few_events _ _ _ _ _ h, r.joined ∙ reached_expected _ _ _ _ _ h)

-- demand 2 for lists of calls. "9 finished: root closed, only space follows": where the last call gives 9, all events were read, and the records are the
-- model's of the whole scene
pub finished_calls : (table : List ℕ) (calls : List AnyCall) → Growing (map call_of calls) →
    let rs = calls_from table fresh_of calls in
    let last = last_scene (map call_of calls) in
    last_number rs ≡ 9 → (events_in rs ≡ length (events last)) × (all_records rs ≡ whole_model (decode table) last)
finished_calls table cs g nine =
    let t = decode table in
    let last = last_scene (map call_of cs) in
    let r = all_called table cs g in
    let h = all_reached table cs g in
    let f = r.finishes 0 (λ e. absurd (omega arith)) nine in
    let w = reader_of (session_after table fresh_of cs) in
    let x = ends_here last (events_in (calls_from table fresh_of cs)) w (finished f.0) h.reader f.1 refl refl in
    let at_end : f.0 ≡ length last = finished_at last w h.sound.held f.0 f.1 in
    (x.0, r.joined ∙ reached_expected _ _ _ _ _ h ∙ ap (expected t last) x.0 ∙ expected_whole t last (x.1 ∙ ap finished at_end))

-- ---- further calls
pub then_calls : (table : List ℕ) (calls more : List AnyCall) (z : Session) → calls_from table z (calls ++ more) ≡ calls_from table z calls ++ calls_from table (session_after table z calls) more
unfolding calls_from
then_calls table [] more z = refl
then_calls table (c ∷ cs) more z =
    let r = handed_back table z c in
    ap (λ (rs : List Step). r ∷ rs) (then_calls table cs more r.session)

pub no_later_call_byte : (table : List ℕ) (calls more : List AnyCall) → BeginsWith (all_records (calls_from table fresh_of (calls ++ more))) (all_records (calls_from table fresh_of calls))
unfolding all_records
no_later_call_byte table cs more =
    let first = calls_from table fresh_of cs in
    let later = calls_from table (session_after table fresh_of cs) more in
    (all_records later, ap all_records (then_calls table cs more fresh_of) ∙ gather_append records_of first later)
