-- Demand 3 for the calls for hosts: the records of all calls of calcivorne_step and calcivorne_advance, joined, are the model's of the last scene's first
-- events, as many as were counted, from the bytes that calcivorne_fresh writes.
--     host_calls_lem               one claim about the whole list
--     lengths_kept             the session's slice keeps its length: only the first is asked to have room
--     no_later_host_call_byte  further calls never change, withdraw or precede a record already handed out
use Prim.Native.Nat.{ℕ, ◌≤◌}
use mathlib.Core.Path.{◌≡◌, ◌∙◌}
use mathlib.Core.List.{List, ◌++◌, map, map-append}
use lib.ListN.{length}
use Rattle.laws.specs.Members.{All}
use Rattle.table.specs.Table.{decode}
use Rattle.reader.specs.Events.{events}
use Rattle.model.specs.Dispatch.{expected}
use Rattle.sessions.specs.Sessions.{fresh_of}
use Rattle.demands.specs.Calls.{BeginsWith, Growing, last_scene, call_of, calls_from}
use Rattle.demands.proofs.Calls.{calls, no_later_call_byte}
use Rattle.layout.specs.Layout.{session_size}
use Rattle.layout.specs.Answers.{too_short}
use Rattle.hosts.specs.Calls.{HostStep, host_fresh, AnyHostCall, any_calls_of, host_calls, events_by, all_records_by}
use Rattle.hosts.proofs.Told.{Told, fresh_number, fresh_holding, fresh_length, told}

-- by the list of steps and advances that the calls tell of
pub calls_told : (table b : List ℕ) → session_size ≤ length b → (calls : List AnyHostCall) → Told (length b) (host_calls table (host_fresh b).session calls) (calls_from table fresh_of (any_calls_of calls))
calls_told table b long cs = rw (← fresh_length b long) (told table cs (host_fresh b).session fresh_of (fresh_holding b long))

pub host_calls_lem : (table b : List ℕ) (calls : List AnyHostCall) → session_size ≤ length b → Growing (map call_of (any_calls_of calls)) →
    let rs = host_calls table (host_fresh b).session calls in
    let last = last_scene (map call_of (any_calls_of calls)) in
    let k = events_by rs in
    ((host_fresh b).number ≡ 0)
    × All (λ (r : HostStep). (r.number ≡ 20 → ⊥) × (r.number ≡ too_short → ⊥)) rs
    × (k ≤ length (events last))
    × (all_records_by rs ≡ expected (decode table) last k)
host_calls_lem table b cs long g =
    let h = calls_told table b long cs in
    let d = calls table (any_calls_of cs) g in
    (fresh_number b long, h.numbers d.0, rw h.events d.1, h.records ∙ rw h.events d.2)

pub lengths_kept : (table b : List ℕ) (calls : List AnyHostCall) → session_size ≤ length b →
    (length (host_fresh b).session ≡ length b) × All (λ (r : HostStep). length r.session ≡ length b) (host_calls table (host_fresh b).session calls)
lengths_kept table b cs long = (fresh_length b long, (calls_told table b long cs).lengths)

pub no_later_host_call_byte : (table b : List ℕ) (calls more : List AnyHostCall) → session_size ≤ length b →
    BeginsWith (all_records_by (host_calls table (host_fresh b).session (calls ++ more))) (all_records_by (host_calls table (host_fresh b).session calls))
no_later_host_call_byte table b cs more long =
    let r = no_later_call_byte table (any_calls_of cs) (any_calls_of more) in
    (r.0, (calls_told table b long (cs ++ more)).records ∙ rw (map-append, (calls_told table b long cs).records) r.1)
