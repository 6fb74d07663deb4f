-- `lanes::word_at` meets its contract: the eight bytes one by one.
use Rattle.std.proofs.Common.{ℕ, ◌+◌, ◌<◌, get_or, arith, ◌∙◌}
use Rattle.lanes.proofs.Words.{le64, le64_digits, eight_at}
use Rattle.lanes.proofs.word_at.Goals as goal

pub returns-clause-number : goal.returns-clause-number
returns-clause-number c = let b : (k : ℕ) → get_or c.args.s.now k 0 < 256 = λ k. omega (arith, c.type_inv.s k) in
    let i = c.args.i in
    rw (eight_at c.args.s.now i (omega arith)) (c.from_le_bytes.ensures ∙ le64 _ _ _ _ _ _ _ _ (b i) (b (i + 1)) (b (i + 2)) (b (i + 3)) (b (i + 4)) (b (i + 5)) (b (i + 6)) (b (i + 7)))

pub returns-clause-bytes : goal.returns-clause-bytes
returns-clause-bytes c = let b : (k : ℕ) → get_or c.args.s.now k 0 < 256 = λ k. omega (arith, c.type_inv.s k) in
    let i = c.args.i in
    rw (eight_at c.args.s.now i (omega arith)) (le64_digits _ _ _ _ _ _ _ _ (b i) (b (i + 1)) (b (i + 2)) (b (i + 3)) (b (i + 4)) (b (i + 5)) (b (i + 6)) (b (i + 7)) _ c.from_le_bytes.ensures)
