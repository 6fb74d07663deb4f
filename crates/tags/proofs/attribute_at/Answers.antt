-- `tags::attribute_at` meets its contract, by the cases of what its callees answer.
use Rattle.std.proofs.Common.{rules}
use Rattle.lexer.specs.Tags.{attribute_at}
use Rattle.tags.proofs.attribute_at.Goals as goal

pub returns-in_err-name : goal.returns-in_err-name
unfolding attribute_at
returns-in_err-name c = rw (← c.in_err-name.ensures) (search rules)

pub returns-in_err-quote : goal.returns-in_err-quote
unfolding attribute_at
returns-in_err-quote c = rw (← c.in_ok-name.ensures, ← c.in_err-quote.ensures) (search rules)

pub returns : goal.returns
unfolding attribute_at
returns c = rw (← c.in_ok-name.ensures, ← c.in_ok-quote.ensures) (search rules)
