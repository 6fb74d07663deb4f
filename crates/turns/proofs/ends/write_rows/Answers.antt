-- `ends::write_rows` meets its contract: no room, or the event's records.
use Prim.Native.Nat.{ℕ, ◌+◌, ◌*◌, ◌-◌}
use mathlib.Core.Path.{refl}
use native.Mathlib.Omega.{arith}
use lib.ListN.{get_or}
use Rattle.records.specs.Rows.{body_of}
use Rattle.strands.specs.Levels.{level_spaces, level_strands}
use Rattle.sessions.specs.Session.{Session}
use Rattle.sessions.specs.Turns.{inner_records}
use Rattle.sessions.proofs.EventTurns.{event_full, event_room}
use Rattle.turns.proofs.ends.write_rows.Goals as goal

pub is_full-requires : goal.is_full-requires
is_full-requires c = (omega arith, omega (arith, c.count_at-n.ensures, c.requires.2))

pub returns-then-is_full : goal.returns-then-is_full
returns-then-is_full c = λ (at : ℕ) (next z : Session).
    let a = c.args in
    let level = a.head.depth - 1 in
    event_full (body_of a.row) a.closes (level_strands a.levels.now) level _ (get_or (level_spaces a.levels.now) (4 * level + 3) 0)
    (inner_records (body_of a.row) a.closes a.head a.levels.now) refl c.count_at-n.ensures
    at next z a.out.now c.is_full.result c.is_full.ensures c.if-is_full.true

pub write_event-requires : goal.write_event-requires
write_event-requires c = (omega arith, omega (arith, c.count_at-n.ensures, c.requires.2))

pub returns : goal.returns
returns c = λ (at : ℕ) (next z : Session).
    let a = c.args in
    let level = a.head.depth - 1 in
    event_room (body_of a.row) a.closes (level_strands a.levels.now) level _ (get_or (level_spaces a.levels.now) (4 * level + 3) 0)
    (inner_records (body_of a.row) a.closes a.head a.levels.now) refl c.count_at-n.ensures
    at next z a.out.now c.is_full.result c.is_full.ensures
    a.row _ _ c.if-is_full.false refl c.write_event.ensures
