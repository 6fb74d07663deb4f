-- `misc::declaration::field_turn` meets its contract, by the cases of what its callees answer.
use Rattle.std.proofs.Common.{rules}
use Rattle.lexer.specs.Declaration.{field_turn}
use Rattle.misc.proofs.declaration.field_turn.Goals as goal

pub returns-in_err-i : goal.returns-in_err-i
unfolding field_turn
returns-in_err-i c = rw (← c.in_err-i.ensures) (search rules)

pub returns : goal.returns
unfolding field_turn
returns c = rw (← c.in_ok-i.ensures) (search rules)
