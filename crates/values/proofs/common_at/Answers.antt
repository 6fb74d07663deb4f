-- `values::common_at` meets its contract: at each turn the bytes that are counted and those that are left to count are all of them.
use mathlib.Core.Path.{◌≡◌, ◌∙◌}
use native.Mathlib.Omega.{arith}
use lib.ListN.{length}
use Rattle.lexer.proofs.Common.{common_start, common_done, common_out, common_miss, common_more}
use Rattle.values.proofs.common_at.Goals as goal

pub loop-k-init : goal.loop-k-init
loop-k-init c = common_start c.args.s.now c.args.word.now c.args.at

pub returns-then-s-at : goal.returns-then-s-at
returns-then-s-at c = common_out _ _ _ _ _ c.loop-k.invariant (omega arith)

pub returns-then-s-at-2 : goal.returns-then-s-at-2
returns-then-s-at-2 c = common_out _ _ _ _ _ c.loop-k.invariant (omega arith)

pub returns-then-s-at-3 : goal.returns-then-s-at-3
returns-then-s-at-3 c = common_miss _ _ _ _ _ c.loop-k.invariant (omega arith) (omega arith) c.if-s-at-3.true

pub loop-k-preserved : goal.loop-k-preserved
loop-k-preserved c = common_more _ _ _ _ _ c.loop-k.invariant (omega arith) (omega arith) c.if-s-at-3.false

pub returns : goal.returns
returns c =
    let e : length c.args.word.now ≡ c.loop-k.k = omega arith in
    e ∙ common_done _ _ _ _ _ c.loop-k.invariant (omega arith)
