-- `ends::count_turn` meets its contract: the event's records counted.
use Prim.Native.Nat.{ℕ, ◌+◌, ◌*◌, ◌-◌}
use mathlib.Core.Path.{refl}
use mathlib.Core.List.{List}
use native.Mathlib.Omega.{arith}
use lib.ListN.{get_or}
use Rattle.model.specs.Records.{Body}
use Rattle.strands.specs.Levels.{level_spaces, level_strands}
use Rattle.sessions.specs.Sessions.{session_at}
use Rattle.sessions.specs.Turns.{inner_records}
use Rattle.turns.proofs.Weighing.{event_weighed}
use Rattle.turns.proofs.ends.count_turn.Goals as goal

pub event_count-requires : goal.event_count-requires
event_count-requires c = (omega arith, omega (arith, c.count_at.ensures, c.requires.2))

pub returns : goal.returns
returns c = λ (b : Body) (bindings : List ℕ).
    let a = c.args in
    let level = a.head.depth - 1 in
    event_weighed b a.closes (level_strands a.levels.now) level _ (get_or (level_spaces a.levels.now) (4 * level + 3) 0)
    (inner_records b a.closes a.head a.levels.now) refl c.count_at.ensures
    (session_at a.behind a.levels.now bindings) c.event_count.result c.event_count.ensures.0
