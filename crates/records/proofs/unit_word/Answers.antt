-- `unit_word` gives what a unit adds to a row's first word.
use native.Mathlib.Omega.{arith}
use Rattle.records.specs.Rows.{unit_word}
use Rattle.records.proofs.unit_word.Goals as goal

pub returns : goal.returns
unfolding unit_word
returns c = let e = rw c.to_be_bytes.ensures at c.from_be_bytes.ensures in omega arith
