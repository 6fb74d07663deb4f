-- `misc::declaration::word_end` meets its contract: at each turn the answer is that of the rest of the word.
use mathlib.Core.Path.{◌≡◌}
use lib.ListN.{drop}
use Rattle.lexer.specs.Declaration.{word_end}
use Rattle.misc.proofs.declaration.word_end.Given as goal

abbrev pub invariant-loop-k : goal.invariant-loop-k
invariant-loop-k l = word_end l.s l.i (drop l.k l.word) ≡ word_end l.s l.at l.word
