-- `misc::instructions::instruction_end` meets its contract, by the cases of what its callees answer.
use Rattle.std.proofs.Common.{rules}
use mathlib.Core.Path.{refl, ap}
use mathlib.Core.Bool.{not}
use Rattle.laws.specs.Tests.{tests, on, off, told, untold'}
use Rattle.lexer.specs.Misc.{instruction_end}
use Rattle.misc.proofs.instructions.instruction_end.Goals as goal

pub returns-in_err-target : goal.returns-in_err-target
unfolding instruction_end
returns-in_err-target c = rw (← c.in_err-target.ensures) (search rules)

pub returns-then-not-is_xml : goal.returns-then-not-is_xml
unfolding instruction_end
returns-then-not-is_xml c = rw (← c.in_ok-target.ensures) (search tests)

pub returns : goal.returns
unfolding instruction_end
returns c = rw (← c.in_ok-target.ensures) (search tests)

pub returns-then-not-is_declared : goal.returns-then-not-is_declared
unfolding instruction_end
returns-then-not-is_declared c =
    rw (← c.in_ok-target.ensures)
    (on _ _ _ _ (untold' _ _ c.is_xml.ensures (ap not c.if-not-is_xml.false))
    (off _ _ _ _ (told _ _ _ c.is_declared.ensures c.if-not-is_declared.true) refl))
