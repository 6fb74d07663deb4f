-- `put_row_if` lays a row where it is due and fits.
use mathlib.Core.Path.{sym, ◌∙◌}
use Rattle.records.specs.Rows.{laid}
use Rattle.records.proofs.Laid.{if_due, if_not}
use Rattle.records.proofs.put_row_if.Goals as goal

pub returns-then-due : goal.returns-then-due
returns-then-due c =
    let a = c.args in
    c.put_row.ensures ∙ sym (if_due (laid a.out.now a.at) a.due a.r c.if-due.true)

pub returns-else-due : goal.returns-else-due
returns-else-due c = let a = c.args in sym (if_not (laid a.out.now a.at) a.due a.r c.if-due.false)
