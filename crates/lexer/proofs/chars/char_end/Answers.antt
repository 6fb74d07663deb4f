-- `lexer::chars::char_end` meets its contract: a character that stands whole, or what is found byte by byte.
use native.Mathlib.Omega.{arith}
use Rattle.lexer.proofs.CharTurns.{whole_inside}
use Rattle.lexer.proofs.chars.char_end.Goals as goal

pub overflow_add-result : goal.overflow_add-result
overflow_add-result c = omega (arith, whole_inside _ c.args.s.now c.args.at _ c.in-Some.ensures.1)
