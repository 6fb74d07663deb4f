-- `put_words` lays rows kept as words: the first j of them after j turns.
use native.Mathlib.Omega.{arith}
use Rattle.records.proofs.Words.{words_start, words_turn}
use Rattle.records.proofs.put_words.Goals as goal

pub loop-j-init : goal.loop-j-init
loop-j-init c = let a = c.args in words_start a.words.now a.unit a.out.now a.at

pub loop-j-preserved : goal.loop-j-preserved
loop-j-preserved c =
    let a = c.args in
    words_turn a.words.now a.unit a.out.now a.at _ _ c.loop-j.j (omega arith) c.loop-j.invariant c.put_kept.ensures
