-- `misc::declaration::word_end` meets its contract: at each turn the answer is that of the rest of the word.
use mathlib.Core.Path.{refl}
use Rattle.misc.proofs.Words.{word_done, word_cut, word_bad, word_more}
use Rattle.misc.proofs.declaration.word_end.Goals as goal

pub loop-k-init : goal.loop-k-init
loop-k-init c = refl

pub returns-then-s-i : goal.returns-then-s-i
returns-then-s-i c = search word_cut

pub returns-then-s-i-2 : goal.returns-then-s-i-2
returns-then-s-i-2 c = search word_bad

pub loop-k-preserved : goal.loop-k-preserved
loop-k-preserved c = search word_more

pub returns : goal.returns
returns c = search word_done
