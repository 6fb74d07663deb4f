-- `levels::counts_add_up` meets its contract: what is left of the bound, and the counts so far, are the bound.
use native.Mathlib.Omega.{arith}
use Rattle.strands.specs.Levels.{level_names}
use Rattle.coherence.proofs.CheckTurns.{counts_start, counts_over, counts_on, counts_end}
use Rattle.coherence.proofs.levels.counts_add_up.Goals as goal

pub loop-k-init : goal.loop-k-init
loop-k-init c = search counts_start

pub returns-in_default : goal.returns-in_default
returns-in_default c =
    let l = c.loop-k in
    counts_over (level_names c.args.levels.now) c.args.depth c.args.bound l.left l.k (omega arith) l.invariant c.loop-k-test.true c.count_in.result c.count_in.ensures (omega (arith, c.in_default.ensures))

pub loop-k-preserved : goal.loop-k-preserved
loop-k-preserved c =
    let l = c.loop-k in
    rw c.in-Some.ensures.1 (counts_on (level_names c.args.levels.now) c.args.depth c.args.bound l.left l.k (omega arith) l.invariant c.loop-k-test.true c.count_in.result c.count_in.ensures c.in-Some.ensures.0)

pub returns : goal.returns
returns c = search counts_end
