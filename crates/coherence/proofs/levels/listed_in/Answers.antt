-- `levels::listed_in` meets its contract: no URI behind the n-th is listed.
use Prim.Native.Nat.{◌+◌, ◌-◌}
use mathlib.Core.Path.{◌≡◌, ◌∙◌}
use native.Mathlib.Omega.{arith}
use Rattle.coherence.proofs.CheckTurns.{listed_start, listed_here, listed_less}
use Rattle.coherence.proofs.levels.listed_in.Goals as goal

pub loop-n-init : goal.loop-n-init
loop-n-init c = search listed_start

pub returns-then-is_some : goal.returns-then-is_some
returns-then-is_some c =
    let z : c.loop-n.n - 1 + 1 ≡ c.loop-n.n = omega arith in
    z ∙ listed_here c.args.table.now c.args.header c.loop-n.n (λ q. omega arith) c.place_of.result (rw z at c.place_of.ensures) c.is_some.result c.is_some.ensures c.loop-n.invariant c.if-is_some.true

pub loop-n-preserved : goal.loop-n-preserved
loop-n-preserved c =
    let z : c.loop-n.n - 1 + 1 ≡ c.loop-n.n = omega arith in
    listed_less c.args.table.now c.args.header c.loop-n.n (λ q. omega arith) c.place_of.result (rw z at c.place_of.ensures) c.is_some.result c.is_some.ensures c.if-is_some.false
