-- `misc::begins::markup_at` meets its contract: the tests on the way to each `return` say which case it is.
use Rattle.laws.specs.Tests.{tests, past_ltb}
use Rattle.lexer.specs.Begins.{markup_at}
use Rattle.misc.proofs.begins.markup_at.Goals as goal

pub returns-then-s-at : goal.returns-then-s-at
unfolding markup_at
returns-then-s-at c = search (past_ltb, tests)

pub returns-then-s-second : goal.returns-then-s-second
unfolding markup_at
returns-then-s-second c = search (past_ltb, tests)

pub returns-then-inside : goal.returns-then-inside
unfolding markup_at
returns-then-inside c = search (past_ltb, tests)

pub returns-then-b-eq47 : goal.returns-then-b-eq47
unfolding markup_at
returns-then-b-eq47 c = search (past_ltb, tests)

pub returns-then-opens_misc : goal.returns-then-opens_misc
unfolding markup_at
returns-then-opens_misc c = search (past_ltb, tests)

pub returns-then-inside-closed : goal.returns-then-inside-closed
unfolding markup_at
returns-then-inside-closed c = search (past_ltb, tests)

pub returns : goal.returns
unfolding markup_at
returns c = search (past_ltb, tests)
