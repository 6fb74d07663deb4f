-- `entries::take_rule` meets its contract.
use Rattle.entries.proofs.Taking.{one_full, one_laid}
use native.Mathlib.Omega.{arith}
use Rattle.entries.proofs.take_rule.Goals as goal

pub returns-then-n-ge16 : goal.returns-then-n-ge16
returns-then-n-ge16 c =
    let a = c.args in
    let z = one_full a.w a.rule a.words.now a.schemas.now a.n c.if-n-ge16.true in
    (z.number, z.strands, z.marks)

pub returns : goal.returns
returns c =
    let a = c.args in
    let z = one_laid a.w a.rule a.words.now a.schemas.now a.n c.if-n-ge16.false (omega arith) (omega arith) c.made_by.result c.from.result c.made_by.ensures c.from.ensures in
    (z.number, z.strands, z.marks)
