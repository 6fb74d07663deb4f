-- `misc::declaration::some_end` meets its contract: at each turn the answer is the machine's from `i` on, in the state 0 at the first byte and 1 behind it.
use Rattle.std.specs.Prelude.{Err}
use Prim.Native.Nat.{◌≤◌}
use mathlib.Core.Path.{◌≡◌}
use mathlib.Core.Bool.{cond}
use lib.ListN.{drop}
use lib.Dec.{eqb}
use Rattle.laws.specs.Reading.{run}
use Rattle.lexer.specs.Declaration.{some_step, some_end}
use Rattle.lexer.specs.declared.Stop.TheVariants.{Cut}
use Rattle.misc.proofs.declaration.some_end.Given as goal

abbrev pub invariant-loop-i : goal.invariant-loop-i
invariant-loop-i l = (l.at ≤ l.i) × (run (Err Cut) (some_step l.field l.quote) (cond (eqb l.i l.at) 0 1) (drop l.i l.s) l.i ≡ some_end l.s l.field l.at l.quote)
