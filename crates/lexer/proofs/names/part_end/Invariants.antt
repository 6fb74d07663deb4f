-- `lexer::names::part_end` meets its contract: at each turn the answer is the machine's from `i` on, where a character begins.
use Prim.Native.Nat.{◌+◌, ◌≤◌, ◌<◌}
use mathlib.Core.Path.{◌≡◌}
use lib.ListN.{length}
use Rattle.lexer.proofs.Parts.{Left}
use Rattle.lexer.proofs.names.part_end.Given as goal

abbrev pub invariant-loop-i : goal.invariant-loop-i
invariant-loop-i l = (l.len ≡ length l.s) × (l.at < l.i) × (l.i ≤ l.end) × (l.end ≤ l.len) × (l.end ≤ l.at + 64) × Left l.s l.at l.i
