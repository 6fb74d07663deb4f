-- `layout::storing::words_in` meets its contract: the first i numbers are filled in.
use Rattle.std.proofs.Common.{ℕ, ◌+◌, ◌*◌, refl, sym, ap, ◌∙◌, zero-add, arith}
use lib.ListN.{set}
use Rattle.layout.specs.Layout.{word4}
use Rattle.layout.proofs.Filled.{fill_start, fill_more, fill_end}
use Rattle.layout.proofs.storing.words_in.Goals as goal

pub loop-i-init : goal.loop-i-init
loop-i-init c = let a = c.args in fill_start (λ (k : ℕ). word4 a.b.now (a.at + 4 * k)) a.words.now 0

pub loop-i-preserved : goal.loop-i-preserved
loop-i-preserved c =
    let a = c.args in
    let l = c.loop-i in
    ap (λ (k : ℕ). set l.words k c.word4_at.result) (sym (zero-add l.i))
    ∙ fill_more (λ (k : ℕ). word4 a.b.now (a.at + 4 * k)) a.words.now 0 l.words l.i c.word4_at.result (omega arith) l.invariant c.word4_at.ensures

pub returns : goal.returns
returns c =
    let a = c.args in
    let l = c.loop-i in
    fill_end (λ (k : ℕ). word4 a.b.now (a.at + 4 * k)) a.words.now l.words l.i _ refl (omega arith) l.invariant
