-- `layout::storing::put_words` meets its contract: the first i numbers are stored.
use Rattle.std.proofs.Common.{arith}
use Rattle.layout.proofs.Stored.{words_start, words_more, words_end}
use Rattle.layout.proofs.storing.put_words.Goals as goal

pub loop-i-init : goal.loop-i-init
loop-i-init c = let a = c.args in words_start a.b.now a.at a.words.now

pub loop-i-preserved : goal.loop-i-preserved
loop-i-preserved c =
    let a = c.args in
    let l = c.loop-i in
    words_more a.b.now a.at a.words.now l.b _ l.i (omega arith) (omega arith) l.invariant c.put4.ensures

pub returns : goal.returns
returns c =
    let a = c.args in
    let l = c.loop-i in
    words_end a.b.now a.at a.words.now l.b l.i (omega arith) l.invariant
