-- `misc::declaration::encoding_rest` meets its contract, by the cases of what its callees answer.
use Rattle.std.proofs.Common.{rules}
use Rattle.lexer.specs.Declaration.{encoding_rest}
use Rattle.misc.proofs.declaration.encoding_rest.Goals as goal

pub returns-in_err-next : goal.returns-in_err-next
unfolding encoding_rest
returns-in_err-next c = rw (← c.in_err-next.ensures) (search rules)

pub returns-in-Close : goal.returns-in-Close
unfolding encoding_rest
returns-in-Close c = rw (← c.in_ok-next.ensures, c.in-Close.is)

pub returns-in-Attribute : goal.returns-in-Attribute
unfolding encoding_rest
returns-in-Attribute c = rw (← c.in_ok-next.ensures, c.in-Attribute.is) (search rules)
