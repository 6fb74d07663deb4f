-- Demand 3 for the calls for hosts, with commits: the records of all calls of calcivorne_step, calcivorne_advance and calcivorne_commit, of any offers in
-- bytes, joined, are the model's of the last scene's first events, as many as were counted, from the bytes that calcivorne_fresh writes.
--     host_commits               one claim about the whole list
--     no_later_host_commit_byte  further calls never change, withdraw or precede a record already handed out
--     host_commit_of_ask         a commit of what was asked is the step, on all bytes that hold what was asked about
use Prim.Native.Nat.{ℕ, suc, ◌^◌, ◌≤◌, ◌<◌}
use mathlib.Core.Path.{◌≡◌, refl, sym, ap, ◌∙◌}
use mathlib.Core.List.{List, [], ◌∷◌, ◌++◌, map, map-append}
use mathlib.Core.Bool.{Bool, true, false, cond, ◌&&◌}
use native.Mathlib.Omega.{arith}
use borrow.Author.Tests.{le-ltb, ne_eqb}
use lib.ListN.{length, length-take}
use Rattle.laws.specs.Members.{All}
use Rattle.laws.specs.Over.{overwrite}
use Rattle.laws.specs.Tests.{not_right}
use Rattle.laws.proofs.Over.{length_over}
use Rattle.table.specs.Table.{standard, decode}
use Rattle.reader.specs.Events.{events}
use Rattle.model.specs.Dispatch.{expected}
use Rattle.model.proofs.Lists.{all_left}
use Rattle.sessions.specs.Session.{Session}
use Rattle.sessions.specs.Asking.{holds_same, step_where, Offer, offered, commit_of}
use Rattle.sessions.specs.Sessions.{fresh_of}
use Rattle.demands.specs.Calls.{BeginsWith, Growing, last_scene}
use Rattle.demands.specs.Offers.{OfferedCall, of_call, of_commit, call_in, handed_over, offered_from}
use Rattle.demands.proofs.Commits.{commits_joined, no_later_commit_byte}
use Rattle.layout.specs.Layout.{session_size}
use Rattle.layout.specs.Answers.{bytes_behind, too_short}
use Rattle.offers.specs.Layout.{offer_size, offer_in, holds_offer, offer_bytes}
use Rattle.offers.specs.Calls.{byte_commit, BytesHoldSame}
use Rattle.offers.proofs.Offered.{byte_commit_of_ask}
use Rattle.capi.specs.Calls.{byte_step}
use Rattle.hosts.specs.Calls.{HostStep, host_fresh, host_step, events_by, all_records_by}
use Rattle.hosts.specs.Commits.{HostOffered, of_host, of_host_commit, host_call_in, Roomy, host_ask, host_commit, host_over, host_offers}
use Rattle.hosts.proofs.Answers.{offered_answers}
use Rattle.hosts.proofs.Told.{Holding, fresh_number, fresh_holding, fresh_length, telling, host_back_lem, Told, told_none, told_next}

-- the offer that bytes tell of, beside a scene: bytes that hold none tell of one that no session meets there
abbrev offer_told : List ℕ → List ℕ → Offer
offer_told o s = cond (holds_offer o) (offer_in o) (record { session = (offer_in o).session; length = suc (length s) })

-- the call that a host's tells of
abbrev offered_in : HostOffered → OfferedCall
offered_in (of_host c) = of_call c.call
offered_in (of_host_commit o c) = of_commit (offer_told o c.call.scene) c.call

same_calls : (calls : List HostOffered) → map call_in (map offered_in calls) ≡ map host_call_in calls
same_calls [] = refl
same_calls (of_host c ∷ cs) = rw (same_calls cs)
same_calls (of_host_commit o c ∷ cs) = rw (same_calls cs)

-- ---- a call
module _ (b : List ℕ) (z : Session) (h : Holding b z) (table : List ℕ) where
  byte_commit_lem : (o s out : List ℕ) → byte_commit o b table s out ≡ commit_of standard (offer_told o s) z table s out
  unfolding byte_commit
  byte_commit_lem o s out = rw (h.held, h.read) (ap (λ (t : Bool). step_where t standard table s z out) (by (holds_offer o)))
    where
      by : (t : Bool) → (t && offered (offer_in o) z s) ≡ offered (cond t (offer_in o) (record { session = (offer_in o).session; length = suc (length s) })) z s
      by true = refl
      by false = sym (not_right (holds_same z (offer_in o).session) _ (ne_eqb (length s) (suc (length s)) (λ e. omega arith)))

  host_over_lem : (c : HostOffered) → Roomy c → host_over table b c ≡ telling (handed_over table z (offered_in c)) (bytes_behind b (handed_over table z (offered_in c)))
  unfolding host_commit
  host_over_lem (of_host c) room = host_back_lem b z h table c.call c.answer
  host_over_lem (of_host_commit o c) room = rw (le-ltb (length b) session_size h.long, le-ltb (length o) offer_size room, byte_commit_lem o c.call.scene c.call.output)

-- ---- a list of calls
told_offered : (table : List ℕ) (calls : List HostOffered) (b : List ℕ) (z : Session) → Holding b z → All Roomy calls → Told (length b) (host_offers table b calls) (offered_from table z (map offered_in calls))
unfolding host_offers offered_from
told_offered table [] b z h rooms = told_none (length b)
told_offered table (c ∷ cs) b z h rooms =
    let r = handed_over table z (offered_in c) in
    told_next b z h r (offered_answers table z (offered_in c)) (host_over table b c) (host_over_lem b z h table c rooms.0) (λ (l : List ℕ). host_offers table l cs) (offered_from table r.session (map offered_in cs))
    (λ l k. told_offered table cs l r.session k rooms.1)

commits_told : (table b : List ℕ) → session_size ≤ length b → (calls : List HostOffered) → All Roomy calls → Told (length b) (host_offers table (host_fresh b).session calls) (offered_from table fresh_of (map offered_in calls))
commits_told table b long cs rooms = rw (← fresh_length b long) (told_offered table cs (host_fresh b).session fresh_of (fresh_holding b long) rooms)

pub host_commits : (table b : List ℕ) (calls : List HostOffered) → session_size ≤ length b → All Roomy calls → Growing (map host_call_in calls) →
    let rs = host_offers table (host_fresh b).session calls in
    let last = last_scene (map host_call_in calls) in
    let k = events_by rs in
    ((host_fresh b).number ≡ 0)
    × All (λ (r : HostStep). (r.number ≡ 20 → ⊥) × (r.number ≡ too_short → ⊥)) rs
    × (k ≤ length (events last))
    × (all_records_by rs ≡ expected (decode table) last k)
host_commits table b cs long rooms g =
    let h = commits_told table b long cs rooms in
    let d = commits_joined table (map offered_in cs) (rw (same_calls cs) g) in
    (fresh_number b long, h.numbers d.0, rw (h.events, ← same_calls cs) d.1, h.records ∙ rw (h.events, ← same_calls cs) d.2)

pub no_later_host_commit_byte : (table b : List ℕ) (calls more : List HostOffered) → session_size ≤ length b → All Roomy (calls ++ more) →
    BeginsWith (all_records_by (host_offers table (host_fresh b).session (calls ++ more))) (all_records_by (host_offers table (host_fresh b).session calls))
no_later_host_commit_byte table b cs more long rooms =
    let r = no_later_commit_byte table (map offered_in cs) (map offered_in more) in
    (r.0, (commits_told table b long (cs ++ more) rooms).records ∙ rw (map-append, (commits_told table b long cs (all_left Roomy cs more rooms)).records) r.1)

-- ---- ask first
room_kept : (offer session : List ℕ) (n : ℕ) → offer_size ≤ length offer → offer_size ≤ length (overwrite offer 0 (offer_bytes session n))
unfolding offer_bytes
room_kept offer session n room = rw (length_over offer 0 (offer_bytes session n) (omega (arith, length-take session_size session))) room

-- of the same table and scene, on the bytes b asked about or any c that hold the same, whether or not a session; `before` comes in as ask's answer, `answer` as
-- commit's
pub host_commit_of_ask : (table s b c out offer before answer : List ℕ) → session_size ≤ length b → session_size ≤ length c → offer_size ≤ length offer → All (λ (x : ℕ). x < 256) b → length s < 2 ^ 64 → BytesHoldSame c b →
    host_commit (host_ask table s b offer before).offer table s c out answer ≡ host_step table s c out answer
unfolding host_ask host_commit host_step byte_step
host_commit_of_ask table s b c out offer before answer long long' room few short same =
    rw (
      le-ltb (length b) session_size long,
      le-ltb (length c) session_size long',
      le-ltb (length offer) offer_size room,
      le-ltb _ offer_size (room_kept offer b (length s) room),
      byte_commit_of_ask b c offer table s out long few short same,
    )
