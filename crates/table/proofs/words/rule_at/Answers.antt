-- `table::words::rule_at` meets its contract.
use Rattle.table.proofs.RuleTurns.{rule_inside, rule_outside}
use Rattle.table.proofs.words.rule_at.Goals as goal

pub returns-then-i-header : goal.returns-then-i-header
returns-then-i-header c = search rule_inside

pub returns-else-i-header : goal.returns-else-i-header
returns-else-i-header c = search rule_outside
