-- `put_kept` lays a row kept as words.
use native.Mathlib.Omega.{arith}
use Rattle.records.proofs.Words.{row_laid}
use Rattle.records.proofs.put_kept.Goals as goal

pub returns : goal.returns
returns c =
    let a = c.args in
    row_laid a.words.now a.unit a.out.now a.at _ _ a.j (omega arith) c.put8.ensures c.put8-2.ensures
