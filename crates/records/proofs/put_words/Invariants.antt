-- `put_words` lays rows kept as words: the first j of them after j turns.
use mathlib.Core.Path.{◌≡◌}
use Rattle.laws.specs.Over.{overwrite}
use Rattle.records.proofs.Words.{words_rows}
use Rattle.records.proofs.put_words.Given as goal

abbrev pub invariant-loop-j : goal.invariant-loop-j
invariant-loop-j l = l.out ≡ overwrite l.initial.out l.at (words_rows l.words l.unit l.j)
