-- `arrays::join_levels` meets its contract: the first k levels are joined.
use native.Mathlib.Omega.{arith}
use Rattle.openings.proofs.LevelArrays.{join_first, join_turn, join_last}
use Rattle.openings.proofs.arrays.join_levels.Goals as goal

pub loop-k-init : goal.loop-k-init
loop-k-init c = join_first _ _ _ _ (omega arith)

pub copy-requires : goal.copy-requires
copy-requires c = (omega (arith, c.loop-k.invariant.long), omega arith)

pub copy-requires-in-loop-k : goal.copy-requires-in-loop-k
copy-requires-in-loop-k c = (omega (arith, c.loop-k.invariant.long), omega arith)

pub copy-requires-in-loop-k-2 : goal.copy-requires-in-loop-k-2
copy-requires-in-loop-k-2 c = (omega (arith, c.loop-k.invariant.long), omega arith)

pub loop-k-preserved : goal.loop-k-preserved
loop-k-preserved c =
    let a = c.args in
    let l = c.loop-k in
    join_turn _ a.names.now a.spaces.now a.strands.now (omega arith) (omega arith) (omega arith) l.levels _ _ _ l.k l.invariant c.loop-k-test.true c.copy.ensures c.copy-in-loop-k.ensures c.copy-in-loop-k-2.ensures

pub returns : goal.returns
returns c =
    let a = c.args in
    let l = c.loop-k in
    join_last _ a.names.now a.spaces.now a.strands.now (omega arith) (omega arith) (omega arith) l.levels l.k l.invariant c.loop-k-test.false
