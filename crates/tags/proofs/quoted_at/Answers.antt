-- `tags::quoted_at` meets its contract, by the cases of what its callees answer.
use Rattle.std.proofs.Common.{rules}
use Rattle.laws.specs.Tests.{tests}
use Rattle.lexer.specs.Tags.{quoted_at}
use Rattle.tags.proofs.quoted_at.Goals as goal

pub returns-then-s-at : goal.returns-then-s-at
unfolding quoted_at
returns-then-s-at c = search tests

pub returns-in_err-stop : goal.returns-in_err-stop
unfolding quoted_at
returns-in_err-stop c = rw (← c.in_err-stop.ensures) (search (rules, tests))

pub returns-then-quote : goal.returns-then-quote
unfolding quoted_at
returns-then-quote c = rw (← c.in_ok-stop.ensures) (search tests)

pub returns : goal.returns
unfolding quoted_at
returns c = search tests
