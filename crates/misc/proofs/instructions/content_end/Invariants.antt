-- `misc::instructions::content_end` meets its contract: at each turn the answer is the machine's from `i` on, in the state 1 behind a ? and 0 else.
use Rattle.std.specs.Prelude.{Err}
use Prim.Native.Nat.{◌-◌}
use mathlib.Core.Path.{◌≡◌}
use mathlib.Core.List.{[]}
use mathlib.Core.Bool.{cond}
use lib.ListN.{length, drop}
use Rattle.laws.specs.Reading.{run}
use Rattle.lexer.specs.Misc.{misc_state, content_step, content_end}
use Rattle.lexer.specs.declared.Stop.TheVariants.{Cut}
use Rattle.misc.proofs.instructions.content_end.Given as goal

abbrev pub invariant-loop-i : goal.invariant-loop-i
invariant-loop-i l = run (Err Cut) content_step (misc_state (cond l.behind 1 0) []) (drop l.i l.s) l.i ≡ content_end l.s l.at

abbrev pub decreases-loop-i : goal.decreases-loop-i
decreases-loop-i l = length l.s - l.i
