-- `put_row` lays a row where it fits.
use mathlib.Core.Path.{sym}
use native.Mathlib.Omega.{arith}
use Rattle.records.proofs.Laid.{row_late, row_put}
use Rattle.records.proofs.put_row.Goals as goal
use Rattle.records.proofs.put_row.Goals.{then-out-lt16-via-then-out-lt16, then-out-lt16-via-else-out-lt16+then-out-at}

pub returns-then-out-lt16 : goal.returns-then-out-lt16
returns-then-out-lt16 c =
    let a = c.args in
    elim c.then-out-lt16.branch [
      | then-out-lt16-via-then-out-lt16 w ↦ sym (row_late a.out.now a.at a.r (omega arith))
      | then-out-lt16-via-else-out-lt16+then-out-at w ↦ sym (row_late a.out.now a.at a.r (omega arith))
    ]

pub returns : goal.returns
returns c =
    let a = c.args in
    row_put a.out.now a.at a.r _ _ (omega arith) c.record_bytes.ensures c.lay.ensures
