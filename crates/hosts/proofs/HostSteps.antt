-- Demand 3 for the calls for hosts: the records of all accepted calls of calcivorne_step, joined, are the model's of the last scene's first events, as
-- many as were accepted, from the bytes that calcivorne_fresh writes.
--     host_steps_lem          one claim about the whole list
--     length_kept         the session's slice keeps its length: only the first is asked to have room
--     no_later_host_byte  further calls never change, withdraw or precede a record already handed out
use Prim.Native.Nat.{ℕ, ◌≤◌}
use mathlib.Core.Path.{◌≡◌, ◌∙◌}
use mathlib.Core.List.{List, ◌++◌, map-append}
use lib.ListN.{length}
use Rattle.laws.specs.Members.{All}
use Rattle.table.specs.Table.{decode}
use Rattle.reader.specs.Events.{events}
use Rattle.model.specs.Dispatch.{expected}
use Rattle.sessions.specs.Sessions.{fresh_of}
use Rattle.demands.specs.Calls.{BeginsWith, Growing, last_scene, steps_from}
use Rattle.demands.proofs.Steps.{steps, no_later_byte}
use Rattle.layout.specs.Layout.{session_size}
use Rattle.layout.specs.Answers.{too_short}
use Rattle.hosts.specs.Calls.{HostStep, HostCall, host_fresh, host_steps, calls_of, accepted_by, joined_by}
use Rattle.hosts.proofs.Told.{Told, fresh_number, fresh_holding, fresh_length, told_steps}

-- by the list of steps that the calls tell of
pub told_fresh : (table b : List ℕ) → session_size ≤ length b → (calls : List HostCall) → Told (length b) (host_steps table (host_fresh b).session calls) (steps_from table fresh_of (calls_of calls))
told_fresh table b long calls = rw (← fresh_length b long) (told_steps table calls (host_fresh b).session fresh_of (fresh_holding b long))

pub host_steps_lem : (table b : List ℕ) (calls : List HostCall) → session_size ≤ length b → Growing (calls_of calls) →
    let rs = host_steps table (host_fresh b).session calls in
    let last = last_scene (calls_of calls) in
    let k = accepted_by rs in
    ((host_fresh b).number ≡ 0)
    × All (λ (r : HostStep). (r.number ≡ 20 → ⊥) × (r.number ≡ too_short → ⊥)) rs
    × (k ≤ length (events last))
    × (joined_by rs ≡ expected (decode table) last k)
host_steps_lem table b calls long g =
    let h = told_fresh table b long calls in
    let d = steps table (calls_of calls) g in
    (fresh_number b long, h.numbers d.0, rw h.accepted d.1, h.joined ∙ rw h.accepted d.2)

pub length_kept : (table b : List ℕ) (calls : List HostCall) → session_size ≤ length b →
    (length (host_fresh b).session ≡ length b) × All (λ (r : HostStep). length r.session ≡ length b) (host_steps table (host_fresh b).session calls)
length_kept table b calls long = (fresh_length b long, (told_fresh table b long calls).lengths)

pub no_later_host_byte : (table b : List ℕ) (calls more : List HostCall) → session_size ≤ length b →
    BeginsWith (joined_by (host_steps table (host_fresh b).session (calls ++ more))) (joined_by (host_steps table (host_fresh b).session calls))
no_later_host_byte table b calls more long =
    let r = no_later_byte table (calls_of calls) (calls_of more) in
    (r.0, (told_fresh table b long (calls ++ more)).joined ∙ rw (map-append, (told_fresh table b long calls).joined) r.1)
