-- `judging::clash_in` meets its contract: at each turn the answer so far and that of the words that are left are the answer.
use Rattle.table.proofs.RuleTurns.{with_done, with_on}
use Rattle.judging.proofs.clash_in.Goals as goal

pub loop-v-preserved : goal.loop-v-preserved
loop-v-preserved c = with_on c.args.words.now c.loop-v.v-index _ c.args.w c.loop-v.found c.loop-v.invariant c.loop-v-test.true _ c.two_clash-found.ensures

pub returns : goal.returns
returns c = with_done c.args.words.now c.loop-v.v-index _ c.args.w c.loop-v.found c.loop-v.invariant c.loop-v-test.false
