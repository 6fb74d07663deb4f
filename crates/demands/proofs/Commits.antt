-- Demand 3 for lists in which any calls are commits of any offers: a corollary of `calls`. A commit is a step, or it is 30, and then the session, the events
-- and the records are those of an advance by none.
--     commits_joined          one claim about the whole list
--     finished_commits        the same where the last call gives 9: of the whole scene
--     no_later_commit_byte    a longer last scene or further calls never change, withdraw or precede a record already handed out
use Prim.Native.Nat.{ℕ, ◌+◌, ◌≤◌}
use mathlib.Core.Path.{◌≡◌, refl, sym, ap, ap₂, subst, ◌∙◌}
use mathlib.Core.List.{List, [], ◌∷◌, ◌++◌, map}
use mathlib.Core.Logic.{⊎_elim}
use native.Mathlib.Omega.{arith}
use lib.ListN.{length}
use Rattle.laws.specs.Gather.{gather, total}
use Rattle.laws.specs.Members.{All}
use Rattle.laws.proofs.Gather.{gather_append}
use Rattle.table.specs.Table.{decode}
use Rattle.reader.specs.Events.{events}
use Rattle.model.specs.Dispatch.{expected}
use Rattle.sessions.specs.Sessions.{fresh_of}
use Rattle.sessions.specs.Stepping.{Step, advance_of}
use Rattle.sessions.specs.Session.{Session}
use Rattle.demands.specs.Calls.{Call, BeginsWith, Growing, last_scene, records_of, number_from, last_number, AnyCall, of_step, of_advance, call_of, handed_back, calls_from, events_in, all_records}
use Rattle.demands.specs.Scenes.{whole_model}
use Rattle.demands.specs.Offers.{OfferedCall, of_call, of_commit, call_in, handed_over, offered_from}
use Rattle.demands.proofs.Calls.{calls, finished_calls}
use Rattle.demands.proofs.Offers.{commit_ways}

abbrev NotTwenty : Step → Type 0
NotTwenty r = r.answer.number ≡ 20 → ⊥

module _ (table : List ℕ) where
  -- a call without an offer that does the same to the session and hands out the same
  record Likened (z : Session) (c : OfferedCall) : Type 0 where
    pub plain : AnyCall
    pub same_call : call_of plain ≡ call_in c
    pub session : (handed_over table z c).session ≡ (handed_back table z plain).session
    pub events : (handed_over table z c).answer.events ≡ (handed_back table z plain).answer.events
    pub records : records_of (handed_over table z c) ≡ records_of (handed_back table z plain)
    pub not_20 : NotTwenty (handed_back table z plain) → NotTwenty (handed_over table z c)
    pub nine : (handed_over table z c).answer.number ≡ 9 → (handed_back table z plain).answer.number ≡ 9

  likened : (z : Session) (c : OfferedCall) → Likened z c
  unfolding advance_of
  likened z (of_call c) = record { plain = c; same_call = refl; session = refl; events = refl; records = refl; not_20 = λ k. k; nine = λ e. e }
  likened z (of_commit o c) =
      ⊎_elim
      (λ e. record {
        plain = of_step c;
        same_call = refl;
        session = ap (λ (r : Step). r.session) e;
        events = ap (λ (r : Step). r.answer.events) e;
        records = ap records_of e;
        not_20 = subst NotTwenty (sym e);
        nine = λ n. sym (ap (λ (r : Step). r.answer.number) e) ∙ n;
      })
      (λ e. record {
        plain = of_advance 0 c;
        same_call = refl;
        session = ap (λ (r : Step). r.session) e;
        events = ap (λ (r : Step). r.answer.events) e;
        records = ap records_of e;
        not_20 = λ _ n. absurd (omega (arith, ap (λ (r : Step). r.answer.number) e));
        nine = λ n. absurd (omega (arith, ap (λ (r : Step). r.answer.number) e));
      })
      (commit_ways table c.scene z c.output o)

  unfoldable plainly : Session → List OfferedCall → List AnyCall
  plainly z [] = []
  plainly z (c ∷ cs) = (likened z c).plain ∷ plainly (handed_over table z c).session cs

  record Alike (z : Session) (cs : List OfferedCall) : Type 0 where
    pub calls_are : map call_of (plainly z cs) ≡ map call_in cs
    pub events_are : events_in (offered_from table z cs) ≡ events_in (calls_from table z (plainly z cs))
    pub records_are : all_records (offered_from table z cs) ≡ all_records (calls_from table z (plainly z cs))
    pub numbers_are : All NotTwenty (calls_from table z (plainly z cs)) → All NotTwenty (offered_from table z cs)
    pub last_is : (n m : ℕ) → (n ≡ 9 → m ≡ 9) → number_from n (offered_from table z cs) ≡ 9 → number_from m (calls_from table z (plainly z cs)) ≡ 9

  alike : (z : Session) (cs : List OfferedCall) → Alike z cs
  unfolding plainly offered_from calls_from events_in all_records total gather
  alike z [] = record { calls_are = refl; events_are = refl; records_are = refl; numbers_are = λ a. a; last_is = λ n m f e. f e }
  alike z (c ∷ cs) =
      let f = likened z c in
      let w = (handed_over table z c).session in
      let i = alike w cs in
      let ps = plainly w cs in
      record {
        calls_are = ap₂ (λ (x : Call) (l : List Call). x ∷ l) f.same_call i.calls_are;
        events_are = ap₂ (λ (x y : ℕ). x + y) f.events (i.events_are ∙ ap (λ (v : Session). events_in (calls_from table v ps)) f.session);
        records_are = ap₂ (λ (x y : List ℕ). x ++ y) f.records (i.records_are ∙ ap (λ (v : Session). all_records (calls_from table v ps)) f.session);
        numbers_are = λ a. (f.not_20 a.0, i.numbers_are (subst (λ (v : Session). All NotTwenty (calls_from table v ps)) (sym f.session) a.1));
        last_is =
            λ n m g e.
            subst (λ (v : Session). number_from (handed_back table z f.plain).answer.number (calls_from table v ps) ≡ 9) f.session
            (i.last_is (handed_over table z c).answer.number (handed_back table z f.plain).answer.number f.nine e);
      }

pub commits_joined : (table : List ℕ) (calls : List OfferedCall) → Growing (map call_in calls) →
    let rs = offered_from table fresh_of calls in
    let last = last_scene (map call_in calls) in
    let k = events_in rs in
    All (λ (r : Step). r.answer.number ≡ 20 → ⊥) rs × (k ≤ length (events last)) × (all_records rs ≡ expected (decode table) last k)
commits_joined table cs g =
    let a = alike table fresh_of cs in
    let r = calls table (plainly table fresh_of cs) (rw a.calls_are g) in
    (a.numbers_are r.0, rw (a.events_are, ← a.calls_are) r.1, rw (a.events_are, a.records_are, ← a.calls_are) r.2)

pub finished_commits : (table : List ℕ) (calls : List OfferedCall) → Growing (map call_in calls) →
    let rs = offered_from table fresh_of calls in
    let last = last_scene (map call_in calls) in
    last_number rs ≡ 9 → (events_in rs ≡ length (events last)) × (all_records rs ≡ whole_model (decode table) last)
finished_commits table cs g nine =
    let a = alike table fresh_of cs in
    let r = finished_calls table (plainly table fresh_of cs) (rw a.calls_are g) (a.last_is 0 0 (λ e. e) nine) in
    (rw (a.events_are, ← a.calls_are) r.0, rw (a.records_are, ← a.calls_are) r.1)

-- ---- further calls
then_offered : (table : List ℕ) (calls more : List OfferedCall) (z : Session) → (w : Session) × (offered_from table z (calls ++ more) ≡ offered_from table z calls ++ offered_from table w more)
unfolding offered_from
then_offered table [] more z = (z, refl)
then_offered table (c ∷ cs) more z =
    let r = handed_over table z c in
    let i = then_offered table cs more r.session in
    (i.0, ap (λ (rs : List Step). r ∷ rs) i.1)

pub no_later_commit_byte : (table : List ℕ) (calls more : List OfferedCall) → BeginsWith (all_records (offered_from table fresh_of (calls ++ more))) (all_records (offered_from table fresh_of calls))
unfolding all_records
no_later_commit_byte table cs more =
    let i = then_offered table cs more fresh_of in
    (all_records (offered_from table i.0 more), ap all_records i.1 ∙ gather_append records_of (offered_from table fresh_of cs) (offered_from table i.0 more))
