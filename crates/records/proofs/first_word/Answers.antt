-- `first_word` gives a row's first word but for its unit.
use native.Mathlib.Omega.{arith}
use Rattle.records.specs.Rows.{first_word}
use Rattle.records.proofs.first_word.Goals as goal

pub returns : goal.returns
unfolding first_word
returns c uri_at uri_len = let e = rw (c.to_be_bytes.ensures, c.to_be_bytes-2.ensures) at c.from_be_bytes.ensures in omega arith
