-- `put_pair` lays two rows kept as words.
use native.Mathlib.Omega.{arith}
use Rattle.records.proofs.Words.{pair_laid}
use Rattle.records.proofs.put_pair.Goals as goal

pub returns : goal.returns
returns c =
    let a = c.args in
    pair_laid a.words.now a.unit a.out.now a.at _ _ a.j (omega arith) c.put_kept.ensures c.put_kept-2.ensures
