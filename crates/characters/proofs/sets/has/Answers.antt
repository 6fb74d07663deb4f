-- `characters::sets::has` meets its contract: at each turn the rows that are left say what all say.
use mathlib.Core.Path.{ap}
use Rattle.laws.specs.Lists.{any}
use Rattle.utf8.specs.Forms.{meets}
use Rattle.characters.proofs.Rows.{rows_done, row_met, row_above, row_below}
use Rattle.characters.proofs.sets.has.Goals as goal
use Rattle.characters.proofs.sets.has.Goals.{else-r-most-via-then-r-most+else-least-r, else-r-most-via-else-r-most}

pub loop-r-init : goal.loop-r-init
loop-r-init c = ap (any (meets c.args.least c.args.most)) c.rows_of-r-items.ensures

pub returns-then-least-r : goal.returns-then-least-r
returns-then-least-r c = row_met c.rows_of-r-items.result.now _ _ c.loop-r.r-index _ c.loop-r.invariant c.loop-r-test.true c.if-r-most.true c.if-least-r.true

pub loop-r-preserved : goal.loop-r-preserved
loop-r-preserved c =
    elim c.else-r-most.branch [
      | else-r-most-via-then-r-most+else-least-r w ↦ row_below c.rows_of-r-items.result.now _ _ c.loop-r.r-index _ c.loop-r.invariant c.loop-r-test.true w.if-r-most.true w.if-least-r.false
      | else-r-most-via-else-r-most w ↦ row_above c.rows_of-r-items.result.now _ _ c.loop-r.r-index _ c.loop-r.invariant c.loop-r-test.true w.if-r-most.false
    ]

pub returns : goal.returns
returns c = rows_done c.rows_of-r-items.result.now _ _ c.loop-r.r-index _ c.loop-r.invariant c.loop-r-test.false
