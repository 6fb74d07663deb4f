-- `judging::rules_clash` meets its contract: at each turn the answer is that of the rules from the i-th on.
use mathlib.Core.Path.{ap}
use native.Mathlib.Omega.{arith}
use Rattle.laws.specs.Lists.{any_pair}
use Rattle.table.specs.Judge.{rules_clash}
use Rattle.table.proofs.RuleTurns.{words_taken, pairs_done, pairs_found, pairs_on}
use Rattle.judging.proofs.rules_clash.Goals as goal

pub loop-i-init : goal.loop-i-init
loop-i-init c = rw c.from.ensures (ap (any_pair rules_clash) (words_taken c.args.table.now _ c.args.header (omega arith) c.words_of-all.ensures))

pub returns-then-clash_in : goal.returns-then-clash_in
returns-then-clash_in c = pairs_found _ c.loop-i.i _ c.loop-i.invariant c.loop-i-test.true _ c.clash_in.ensures c.if-clash_in.true

pub loop-i-preserved : goal.loop-i-preserved
loop-i-preserved c = pairs_on _ c.loop-i.i _ c.loop-i.invariant c.loop-i-test.true _ c.clash_in.ensures c.if-clash_in.false

pub returns : goal.returns
returns c = pairs_done _ c.loop-i.i _ c.loop-i.invariant c.loop-i-test.false
