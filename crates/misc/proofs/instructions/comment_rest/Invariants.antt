-- `misc::instructions::comment_rest` meets its contract: at each turn the answer is the machine's from `i` on, its state the hyphens that stand before.
use Rattle.std.specs.Prelude.{Err}
use Prim.Native.Nat.{◌-◌, ◌≤◌}
use mathlib.Core.Path.{◌≡◌}
use mathlib.Core.List.{[]}
use lib.ListN.{length, drop}
use Rattle.laws.specs.Reading.{run}
use Rattle.lexer.specs.Misc.{misc_state, comment_step, comment_rest}
use Rattle.lexer.specs.declared.Stop.TheVariants.{Cut}
use Rattle.misc.proofs.instructions.comment_rest.Given as goal

abbrev pub invariant-loop-i : goal.invariant-loop-i
invariant-loop-i l = (l.hyphens ≤ 2) × (run (Err Cut) comment_step (misc_state l.hyphens []) (drop l.i l.s) l.i ≡ comment_rest l.s l.at)

abbrev pub decreases-loop-i : goal.decreases-loop-i
decreases-loop-i l = length l.s - l.i
