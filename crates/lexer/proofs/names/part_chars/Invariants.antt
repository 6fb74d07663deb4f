-- `lexer::names::part_chars` meets its contract: a character that stands whole within the 64 bytes changes no answer.
use Prim.Native.Nat.{◌+◌, ◌-◌, ◌≤◌}
use mathlib.Core.Path.{◌≡◌}
use lib.ListN.{length}
use Rattle.lexer.specs.Names.{part_from}
use Rattle.lexer.proofs.names.part_chars.Given as goal

abbrev pub invariant-loop-i : goal.invariant-loop-i
invariant-loop-i l = (l.at ≤ l.i) × (l.i ≤ l.at + 64) × (part_from l.s l.at l.i ≡ part_from l.s l.at l.from)

abbrev pub decreases-loop-i : goal.decreases-loop-i
decreases-loop-i l = length l.s - l.i
