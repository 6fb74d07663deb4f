-- `bytes::put_bytes` meets its contract: the first i bytes are laid.
use mathlib.Core.Path.{◌≡◌, refl, sym, ap, ◌∙◌}
use Prim.Native.Nat.{ℕ, ◌+◌}
use native.Mathlib.Omega.{arith}
use lib.ListN.{take, length-set}
use Rattle.laws.specs.Over.{overwrite}
use Rattle.laws.proofs.Over.{over_none}
use Rattle.offers.proofs.Laid.{copy_more}
use Rattle.offers.proofs.bytes.put_bytes.Goals as goal

pub loop-i-init : goal.loop-i-init
loop-i-init c = (omega arith, refl, sym (over_none c.args.b.now c.args.at))

pub loop-i-preserved : goal.loop-i-preserved
loop-i-preserved c =
    let a = c.args in
    let l = c.loop-i in
    (omega arith, length-set l.b (a.at + l.i) _ ∙ l.invariant.1, copy_more a.b.now l.b a.at a.session.now l.i (omega arith) (omega arith) l.invariant.2)

pub returns : goal.returns
returns c =
    let a = c.args in
    let l = c.loop-i in
    let n : l.i ≡ 7208 = omega arith in
    l.invariant.2 ∙ ap (λ (k : ℕ). overwrite a.b.now a.at (take k a.session.now)) n
