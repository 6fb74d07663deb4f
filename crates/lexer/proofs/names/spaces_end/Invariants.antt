-- `lexer::names::spaces_end` meets its contract: at each turn the answer is the machine's from `i` on.
use Rattle.std.specs.Prelude.{Err}
use mathlib.Core.Path.{◌≡◌}
use lib.ListN.{drop}
use Rattle.laws.specs.Reading.{run}
use Rattle.lexer.specs.Names.{space_step, spaces_end}
use Rattle.lexer.specs.declared.Stop.TheVariants.{Cut}
use Rattle.lexer.proofs.names.spaces_end.Given as goal

abbrev pub invariant-loop-i : goal.invariant-loop-i
invariant-loop-i l = run (Err Cut) space_step 0 (drop l.i l.s) l.i ≡ spaces_end l.s l.at
