-- `judging::words_fit` meets its contract: at each turn the answer is that of the rules from the i-th on.
use Rattle.table.proofs.RuleTurns.{fit_start, fit_done, fit_not, fit_on}
use Rattle.judging.proofs.words_fit.Goals as goal

pub loop-i-init : goal.loop-i-init
loop-i-init c = search fit_start

pub returns-then-not-fields_fit : goal.returns-then-not-fields_fit
returns-then-not-fields_fit c = search fit_not

pub loop-i-preserved : goal.loop-i-preserved
loop-i-preserved c = search fit_on

pub returns : goal.returns
returns c = search fit_done
