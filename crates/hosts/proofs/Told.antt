-- Calls on bytes that hold a session tell what the steps and advances of that session tell, and leave bytes that hold the session behind them.
--     Holding, fresh_holding     bytes and the session in them
--     host_back_lem                  a call
--     told, told_steps           a list of calls; of calls of calcivorne_step alone
--     told_none, told_next       by which such a list is told
use Prim.Native.Nat.{ℕ, suc, ◌+◌, ◌≤◌}
use mathlib.Core.Path.{◌≡◌, refl, sym, ap, subst}
use mathlib.Core.List.{List, [], ◌∷◌, ◌++◌, map}
use mathlib.Core.Bool.{Bool, true, false, cond}
use native.Mathlib.Omega.{arith}
use borrow.Author.Tests.{le-ltb, eqb-true}
use lib.Dec.{eqb}
use lib.ListN.{length}
use Rattle.laws.specs.Lists.{keep}
use Rattle.laws.specs.Gather.{gather, total}
use Rattle.laws.specs.Members.{All}
use Rattle.laws.specs.Over.{overwrite}
use Rattle.laws.proofs.Over.{length_over}
use Rattle.laws.proofs.Holds.{holds_cond}
use Rattle.sessions.specs.Session.{Session}
use Rattle.sessions.specs.Sessions.{fresh_of}
use Rattle.sessions.specs.Stepping.{Step}
use Rattle.demands.specs.Calls.{steps_from, is_accepted, accepted_in, records_of, joined_of, AnyCall, of_step, of_advance, handed_back, calls_from, events_in, all_records}
use Rattle.demands.proofs.Steps.{as_calls, as_steps}
use Rattle.layout.specs.Layout.{session_size, session_in, holds_session, session_bytes}
use Rattle.layout.specs.Answers.{answer_numbers, bytes_behind, too_short}
use Rattle.layout.proofs.RoundTrip.{Storable, AllPack, size, fresh_held}
use Rattle.layout.proofs.NextStored.{stored_read, stored_held}
use Rattle.capi.specs.Calls.{byte_step, byte_advance}
use Rattle.hosts.specs.Calls.{HostStep, HostCall, host_fresh, host_step, host_steps, calls_of, gave_zero, accepted_by, records_by, joined_by, host_advance, AnyHostCall, any_calls_of, host_back, host_calls, events_by, all_records_by}
use Rattle.hosts.proofs.Answers.{Answers, answers}

-- b holds the session z
pub record Holding (b : List ℕ) (z : Session) : Type 0 where
  pub long : session_size ≤ length b
  pub held : holds_session b ≡ true
  pub read : session_in b ≡ z
  pub storable : Storable z
  pub packs : AllPack z

-- a session's bytes laid over others that have room for them
module _ (b : List ℕ) (long : session_size ≤ length b) (z : Session) (h : Storable z) (k : AllPack z) where
  laid_length : length (overwrite b 0 (session_bytes z)) ≡ length b
  laid_length = length_over b 0 (session_bytes z) (omega (arith, size z h.levels_many h.bindings_many h.spaces_many h.strands_many))

  laid : Holding (overwrite b 0 (session_bytes z)) z
  laid = record { long = omega (arith, laid_length); held = stored_held b z h k; read = stored_read b z h; storable = h; packs = k }

-- behind fresh
module _ (b : List ℕ) (long : session_size ≤ length b) where
  pub fresh_number : (host_fresh b).number ≡ 0
  unfolding host_fresh
  fresh_number = rw (le-ltb (length b) session_size long)

  pub fresh_holding : Holding (host_fresh b).session fresh_of
  unfolding host_fresh
  fresh_holding = rw (le-ltb (length b) session_size long) (laid b long fresh_of fresh_held.0 fresh_held.1)

  pub fresh_length : length (host_fresh b).session ≡ length b
  unfolding host_fresh
  fresh_length = rw (le-ltb (length b) session_size long) (laid_length b long fresh_of fresh_held.0 fresh_held.1)

-- ---- a call
-- what it tells of what a session's call hands back, and the bytes that it leaves
abbrev pub telling : Step → List ℕ → HostStep
telling r b = record { number = r.answer.number; answer = answer_numbers r.answer; output = r.output; session = b }

module _ (b : List ℕ) (z : Session) (h : Holding b z) where
  pub host_back_lem : (table : List ℕ) (c : AnyCall) (answer : List ℕ) → host_back table b c answer ≡ telling (handed_back table z c) (bytes_behind b (handed_back table z c))
  unfolding host_step byte_step host_advance byte_advance
  host_back_lem table (of_step c) answer = rw (le-ltb (length b) session_size h.long, h.held, h.read)
  host_back_lem table (of_advance most c) answer = rw (le-ltb (length b) session_size h.long, h.held, h.read)

  module _ (r : Step) (a : Answers z r) where
    behind_holding : Holding (bytes_behind b r) r.session
    behind_holding =
        holds_cond (λ (l : List ℕ). Holding l r.session) (eqb r.answer.events 0)
        (λ e. subst (Holding b) (sym (a.keeps (eqb-true r.answer.events 0 e))) h)
        (λ e. laid b h.long r.session (a.storable h.storable) (a.packs h.packs))

    behind_length : length (bytes_behind b r) ≡ length b
    behind_length =
        holds_cond (λ (l : List ℕ). length l ≡ length b) (eqb r.answer.events 0)
        (λ e. refl)
        (λ e. laid_length b h.long r.session (a.storable h.storable) (a.packs h.packs))

-- ---- a list of calls
pub record Told (n : ℕ) (hs : List HostStep) (rs : List Step) : Type 0 where
  pub accepted : accepted_by hs ≡ accepted_in rs
  pub joined : joined_by hs ≡ joined_of rs
  pub events : events_by hs ≡ events_in rs
  pub records : all_records_by hs ≡ all_records rs
  pub numbers : All (λ (r : Step). r.answer.number ≡ 20 → ⊥) rs → All (λ (r : HostStep). (r.number ≡ 20 → ⊥) × (r.number ≡ too_short → ⊥)) hs
  pub lengths : All (λ (r : HostStep). length r.session ≡ n) hs

told_more : (n : ℕ) (r : Step) (b : List ℕ) (hs : List HostStep) (rs : List Step) → r.answer.number ≤ 30 → length b ≡ n → Told n hs rs → Told n (telling r b ∷ hs) (r ∷ rs)
unfolding joined_by joined_of keep gather events_by events_in total all_records_by all_records
told_more n r b hs rs few l h =
    record {
      accepted = count (eqb r.answer.number 0);
      joined = join (eqb r.answer.number 0);
      events = ap (λ (k : ℕ). r.answer.events + k) h.events;
      records = ap (λ (l : List ℕ). records_of r ++ l) h.records;
      numbers = λ k. ((k.0, λ e. omega arith), h.numbers k.1);
      lengths = (l, h.lengths);
    }
  where
    count : (e : Bool) → length (cond e (telling r b ∷ keep gave_zero hs) (keep gave_zero hs)) ≡ length (cond e (r ∷ keep is_accepted rs) (keep is_accepted rs))
    count true = ap suc h.accepted
    count false = h.accepted

    join : (e : Bool) → gather records_by (cond e (telling r b ∷ keep gave_zero hs) (keep gave_zero hs)) ≡ gather records_of (cond e (r ∷ keep is_accepted rs) (keep is_accepted rs))
    join true = ap (λ (l : List ℕ). records_of r ++ l) h.joined
    join false = h.joined

pub told_none : (n : ℕ) → Told n [] []
unfolding joined_by joined_of keep gather events_by events_in total all_records_by all_records
told_none n = record { accepted = refl; joined = refl; events = refl; records = refl; numbers = λ k. tt; lengths = tt }

-- a call x that tells of r, and those behind it
pub told_next : (b : List ℕ) (z : Session) → Holding b z → (r : Step) → Answers z r → (x : HostStep) → x ≡ telling r (bytes_behind b r) → (hs : List ℕ → List HostStep) (rs : List Step)
    → ((l : List ℕ) → Holding l r.session → Told (length l) (hs l) rs) → Told (length b) (x ∷ hs x.session) (r ∷ rs)
told_next b z h r a x e hs rs more =
    let behind = bytes_behind b r in
    let l : length behind ≡ length b = behind_length b z h r a in
    let ih : Told (length b) (hs behind) rs = rw (← l) (more behind (behind_holding b z h r a)) in
    rw e (told_more (length b) r behind (hs behind) rs a.few l ih)

pub told : (table : List ℕ) (calls : List AnyHostCall) (b : List ℕ) (z : Session) → Holding b z → Told (length b) (host_calls table b calls) (calls_from table z (any_calls_of calls))
unfolding host_calls calls_from
told table [] b z h = told_none (length b)
told table (c ∷ cs) b z h =
    let r = handed_back table z c.call in
    told_next b z h r (answers table z c.call) (host_back table b c.call c.answer) (host_back_lem b z h table c.call c.answer) (λ (l : List ℕ). host_calls table l cs) (calls_from table r.session (any_calls_of cs))
    (λ l k. told table cs l r.session k)

-- ---- calls each of which is a step
abbrev as_host_calls : List HostCall → List AnyHostCall
as_host_calls calls = map (λ (c : HostCall). record { call = of_step c.call; answer = c.answer }) calls

same_host_calls : (calls : List HostCall) → any_calls_of (as_host_calls calls) ≡ as_calls (calls_of calls)
same_host_calls [] = refl
same_host_calls (c ∷ cs) = ap (λ (l : List AnyCall). of_step c.call ∷ l) (same_host_calls cs)

as_host_steps : (table : List ℕ) (calls : List HostCall) (b : List ℕ) → host_calls table b (as_host_calls calls) ≡ host_steps table b calls
unfolding host_calls host_steps
as_host_steps table [] b = refl
as_host_steps table (c ∷ cs) b =
    let r = host_step table c.call.scene b c.call.output c.answer in
    ap (λ (l : List HostStep). r ∷ l) (as_host_steps table cs r.session)

pub told_steps : (table : List ℕ) (calls : List HostCall) (b : List ℕ) (z : Session) → Holding b z → Told (length b) (host_steps table b calls) (steps_from table z (calls_of calls))
told_steps table calls b z h = rw (same_host_calls calls, as_steps table (calls_of calls) z, as_host_steps table calls b) at (told table (as_host_calls calls) b z h)
