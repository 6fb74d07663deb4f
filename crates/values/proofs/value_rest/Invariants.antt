-- `values::value_rest` meets its contract: at each turn the answer is that of what is left.
use Rattle.std.specs.Prelude.{Err}
use mathlib.Core.Path.{◌≡◌}
use Prim.Native.Nat.{◌-◌}
use lib.ListN.{length, drop}
use Rattle.laws.specs.Reading.{run}
use Rattle.lexer.specs.Values.{value_step, value_from}
use Rattle.lexer.specs.declared.Stop.TheVariants.{Cut}
use Rattle.values.proofs.value_rest.Given as goal

abbrev pub invariant-loop-i : goal.invariant-loop-i
invariant-loop-i l = run (Err Cut) (value_step l.s l.at l.quote) 0 (drop l.i l.s) l.i ≡ value_from l.s l.at l.quote l.from

abbrev pub decreases-loop-i : goal.decreases-loop-i
decreases-loop-i l = length l.s - l.i
