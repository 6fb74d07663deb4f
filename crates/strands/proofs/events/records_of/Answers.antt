-- `records_of` reads a strand's count in one of two tables.
use native.Mathlib.Omega.{arith}
use Rattle.laws.specs.Bits.{masks}
use Rattle.strands.proofs.Delivered.{count_closing, count_plain, count_most}
use Rattle.strands.proofs.events.records_of.Goals as goal
use Rattle.strands.proofs.events.records_of.Goals.{then-closes, else-closes}

pub overflow_cast-result : goal.overflow_cast-result
overflow_cast-result c = simp masks (omega arith)

pub returns : goal.returns
returns c =
    let a = c.args in
    elim c.if-closes.branch [
      | then-closes way ↦
          let e = count_closing a.closes _ a.w way.if-closes.true way.counts-is in
          (e, omega (arith, e, count_most a.closes a.w))
      | else-closes way ↦
          let e = count_plain a.closes _ a.w way.if-closes.false way.counts-is in
          (e, omega (arith, e, count_most a.closes a.w))
    ]
