-- `lanes::plain::plain_end` meets its contract: each turn passes over plain bytes.
use Rattle.std.proofs.Common.{◌≡◌, ◌-◌, ◌≤◌, true, length}
use Rattle.lanes.specs.Plain.{plain_bytes}
use Rattle.lanes.proofs.plain.plain_end.Given as goal

abbrev pub invariant-loop-i : goal.invariant-loop-i
invariant-loop-i l = (l.at ≤ l.i) × (plain_bytes l.s l.quote l.at l.i ≡ true)

abbrev pub decreases-loop-i : goal.decreases-loop-i
decreases-loop-i l = length l.s - l.i
