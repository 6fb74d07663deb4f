-- `tags::slash_at` meets its contract, by the cases of what its callees answer.
use Rattle.std.proofs.Common.{rules}
use Rattle.laws.specs.Tests.{past_ltb}
use Rattle.lexer.specs.Tags.{slash_at, wanted}
use Rattle.tags.proofs.slash_at.Goals as goal

pub returns-then-s-at : goal.returns-then-s-at
unfolding slash_at wanted
returns-then-s-at c = rw (past_ltb _ _ c.if-s-at.true)

pub returns-in_err-next : goal.returns-in_err-next
unfolding slash_at
returns-in_err-next c = rw (← c.in_err-next.ensures) (search rules)

pub returns : goal.returns
unfolding slash_at
returns c = rw (← c.in_ok-next.ensures)
