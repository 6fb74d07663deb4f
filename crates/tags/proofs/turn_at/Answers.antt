-- `tags::turn_at` meets its contract, by the cases of what its callees answer.
use Rattle.std.proofs.Common.{rules}
use Rattle.lexer.specs.Tags.{turn_at}
use Rattle.tags.proofs.turn_at.Goals as goal

pub returns-in_err-i : goal.returns-in_err-i
unfolding turn_at
returns-in_err-i c = rw (← c.in_err-i.ensures) (search rules)

pub returns : goal.returns
unfolding turn_at
returns c = rw (← c.in_ok-i.ensures) (search rules)
