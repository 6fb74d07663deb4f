-- `misc::declaration::encoding_then` meets its contract, by the cases of what its callees answer.
use Rattle.std.proofs.Common.{rules}
use Rattle.lexer.specs.Declaration.{encoding_then}
use Rattle.misc.proofs.declaration.encoding_then.Goals as goal

pub returns-in_err-i : goal.returns-in_err-i
unfolding encoding_then
returns-in_err-i c = rw (← c.in_err-i.ensures) (search rules)

pub returns : goal.returns
unfolding encoding_then
returns c = rw (← c.in_ok-i.ensures) (search rules)
