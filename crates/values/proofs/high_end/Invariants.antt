-- `values::high_end` meets its contract: a character from 80 on, at which the quote does not stand, changes no answer.
use Prim.Native.Nat.{◌-◌, ◌≤◌}
use mathlib.Core.Path.{◌≡◌}
use lib.ListN.{length}
use Rattle.lexer.specs.Values.{value_from}
use Rattle.values.proofs.high_end.Given as goal

abbrev pub invariant-loop-i : goal.invariant-loop-i
invariant-loop-i l = (l.from ≤ l.i) × (value_from l.s l.at l.quote l.i ≡ value_from l.s l.at l.quote l.from)

abbrev pub decreases-loop-i : goal.decreases-loop-i
decreases-loop-i l = length l.s - l.i
