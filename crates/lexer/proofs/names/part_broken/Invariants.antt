-- `lexer::names::part_broken` meets its contract: at each turn the answer is the machine's from `i` on, with the bytes of a character that is not whole.
use Rattle.lexer.proofs.Parts.{Reading}
use Rattle.lexer.proofs.names.part_broken.Given as goal

abbrev pub invariant-loop-i : goal.invariant-loop-i
invariant-loop-i l = Reading l.s l.at l.from l.start l.f l.i
