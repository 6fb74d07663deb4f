-- `lexer::chars::broken_end` meets its contract: at each turn the answer is the machine's from `i` on.
use Rattle.lexer.specs.Characters.{char_end}
use Rattle.lexer.proofs.CharTurns.{CharHeld}
use Rattle.lexer.proofs.chars.broken_end.Given as goal

abbrev pub invariant-loop-i : goal.invariant-loop-i
invariant-loop-i l = CharHeld l.set l.s (char_end l.set l.s l.at) l.f l.i
