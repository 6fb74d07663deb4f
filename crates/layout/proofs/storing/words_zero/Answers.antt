-- `layout::storing::words_zero` meets its contract: the answer so far is that of the first j numbers.
use mathlib.Core.Path.{ap}
use Prim.Native.Nat.{ℕ, ◌+◌, ◌*◌}
use native.Mathlib.Omega.{arith}
use lib.Dec.{eqb}
use Rattle.layout.specs.Layout.{word4}
use Rattle.layout.proofs.Tested.{asked_none, asked_more, asked_all}
use Rattle.layout.proofs.storing.words_zero.Goals as goal

pub loop-j-init : goal.loop-j-init
loop-j-init c = let a = c.args in (omega arith, asked_none (λ (i : ℕ). eqb (word4 a.b.now (a.at + a.step * i)) 0))

pub overflow_mul-step : goal.overflow_mul-step
overflow_mul-step c = omega (arith, c.requires c.loop-j.j c.loop-j-test.true)

pub overflow_add-at : goal.overflow_add-at
overflow_add-at c = omega (arith, c.requires c.loop-j.j c.loop-j-test.true)

pub word4_at-requires : goal.word4_at-requires
word4_at-requires c = omega (arith, c.requires c.loop-j.j c.loop-j-test.true)

pub loop-j-preserved : goal.loop-j-preserved
loop-j-preserved c =
    let a = c.args in
    let l = c.loop-j in
    (omega arith, asked_more (λ (i : ℕ). eqb (word4 a.b.now (a.at + a.step * i)) 0) l.all (eqb c.word4_at.result 0) l.j l.invariant.1 (ap (λ (w : ℕ). eqb w 0) c.word4_at.ensures))

pub returns : goal.returns
returns c =
    let a = c.args in
    let l = c.loop-j in
    asked_all (λ (i : ℕ). eqb (word4 a.b.now (a.at + a.step * i)) 0) l.all l.j a.n (omega arith) l.invariant.1
