-- `index::choose` meets its contract.
use Rattle.table.proofs.Scan.{choose_naming, choose_any}
use Rattle.index.proofs.choose.Goals as goal

pub returns-then-first-end : goal.returns-then-first-end
returns-then-first-end c =
    choose_naming c.args.index.now _ _ _ _ _ _ _ c.from-at.ensures c.from-key.ensures c.from.ensures c.min-end.ensures _ c.next_rule-first.ensures c.if-first-end.true

pub returns : goal.returns
returns c =
    choose_any c.args.index.now _ _ _ _ _ _ _ c.from-at.ensures c.from-key.ensures c.from.ensures c.min-end.ensures _ c.next_rule-first.ensures c.if-first-end.false
    _ c.next_rule.ensures
