-- `misc::declaration::version_then` meets its contract, by the cases of what its callees answer.
use Rattle.std.proofs.Common.{rules}
use Rattle.lexer.specs.Declaration.{version_then}
use Rattle.misc.proofs.declaration.version_then.Goals as goal

pub returns-in_err-i : goal.returns-in_err-i
unfolding version_then
returns-in_err-i c = rw (← c.in_err-i.ensures) (search rules)

pub returns : goal.returns
unfolding version_then
returns c = rw (← c.in_ok-i.ensures) (search rules)
