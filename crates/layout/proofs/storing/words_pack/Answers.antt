-- `layout::storing::words_pack` meets its contract: the answer so far is that of the first j numbers.
use mathlib.Core.Path.{ap, ◌∙◌}
use Prim.Native.Nat.{ℕ, ◌+◌, ◌*◌}
use native.Mathlib.Omega.{arith}
use Rattle.layout.specs.Layout.{word4, packs}
use Rattle.layout.proofs.Tested.{asked_none, asked_more, asked_all}
use Rattle.layout.proofs.storing.words_pack.Goals as goal

pub loop-j-init : goal.loop-j-init
loop-j-init c = let a = c.args in (omega arith, asked_none (λ (i : ℕ). packs (word4 a.b.now (a.at + 4 * i))))

pub loop-j-preserved : goal.loop-j-preserved
loop-j-preserved c =
    let a = c.args in
    let l = c.loop-j in
    (omega arith, asked_more (λ (i : ℕ). packs (word4 a.b.now (a.at + 4 * i))) l.all c.packs_strand-all.result l.j l.invariant.1 (c.packs_strand-all.ensures ∙ ap packs c.word4_at.ensures))

pub returns : goal.returns
returns c =
    let a = c.args in
    let l = c.loop-j in
    asked_all (λ (i : ℕ). packs (word4 a.b.now (a.at + 4 * i))) l.all l.j a.n (omega arith) l.invariant.1
