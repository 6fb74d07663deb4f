-- `lexer::chars::whole_len` meets its contract: the bytes so far are what the form says, and a form that is whole and allowed is the character.
use Rattle.lexer.proofs.CharTurns.{WholeHeld}
use Rattle.lexer.proofs.chars.whole_len.Given as goal

abbrev pub invariant-loop-i : goal.invariant-loop-i
invariant-loop-i l = WholeHeld l.s l.at l.f l.i
