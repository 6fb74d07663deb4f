-- `tags::equals_end` meets its contract, by the cases of what its callees answer.
use Rattle.std.proofs.Common.{rules}
use Rattle.lexer.specs.Tags.{equals_end}
use Rattle.tags.proofs.equals_end.Goals as goal

pub returns-in_err-i : goal.returns-in_err-i
unfolding equals_end
returns-in_err-i c = rw (← c.in_err-i.ensures) (search rules)

pub returns-in_err-behind : goal.returns-in_err-behind
unfolding equals_end
returns-in_err-behind c = rw (← c.in_ok-i.ensures, ← c.in_err-behind.ensures) (search rules)

pub returns : goal.returns
unfolding equals_end
returns c = rw (← c.in_ok-i.ensures, ← c.in_ok-behind.ensures) (search rules)
