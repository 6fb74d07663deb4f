-- `misc::declaration::field_end` meets its contract, by the cases of what its callees answer.
use Rattle.std.proofs.Common.{rules}
use Rattle.lexer.specs.Declaration.{field_end}
use Rattle.misc.proofs.declaration.field_end.Goals as goal

pub returns-in_err-word : goal.returns-in_err-word
unfolding field_end
returns-in_err-word c = rw (← c.in_err-word.ensures) (search rules)

pub returns-in_err-quote : goal.returns-in_err-quote
unfolding field_end
returns-in_err-quote c = rw (← c.in_ok-word.ensures, ← c.in_err-quote.ensures) (search rules)

pub returns : goal.returns
unfolding field_end
returns c = rw (← c.in_ok-word.ensures, ← c.in_ok-quote.ensures) (search rules)
