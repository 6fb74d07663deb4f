-- `misc::instructions::misc_end` meets its contract: the tests on the way to each `return` say which case it is.
use Rattle.laws.specs.Tests.{tests, past_ltb}
use Rattle.lexer.specs.Misc.{misc_end}
use Rattle.misc.proofs.MiscTurns.{misc_instruction, misc_comment}
use Rattle.misc.proofs.instructions.misc_end.Goals as goal

pub returns-then-s-at : goal.returns-then-s-at
unfolding misc_end
returns-then-s-at c = rw (past_ltb _ _ c.if-s-at.true)

pub returns-then-s-second : goal.returns-then-s-second
unfolding misc_end
returns-then-s-second c = search tests

pub returns-then-s-second-eq63 : goal.returns-then-s-second-eq63
returns-then-s-second-eq63 c = search misc_instruction

pub returns : goal.returns
returns c = search misc_comment
