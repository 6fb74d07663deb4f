-- `index::next_rule` meets its contract: at each turn the answer is that of the rules from the i-th on.
use mathlib.Core.Path.{◌∙◌}
use Rattle.table.proofs.Scan.{up_to_min, few_up_to, next_start, next_done, next_here, next_on}
use Rattle.index.proofs.next_rule.Goals as goal

pub loop-i-init : goal.loop-i-init
loop-i-init c = let e = c.min-last.ensures ∙ up_to_min c.args.end in (few_up_to c.min-last.result c.args.end e, next_start _ _ _ _ _ e)

pub returns-then-key_of-key : goal.returns-then-key_of-key
returns-then-key_of-key c = search next_here

pub loop-i-preserved : goal.loop-i-preserved
loop-i-preserved c = search next_on

pub returns : goal.returns
returns c = search next_done
