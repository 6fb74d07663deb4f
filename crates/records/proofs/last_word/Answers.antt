-- `last_word` gives a row's last word.
use native.Mathlib.Omega.{arith}
use Rattle.records.specs.Rows.{last_word}
use Rattle.records.proofs.last_word.Goals as goal

pub returns : goal.returns
unfolding last_word
returns c kind class at = let e = rw (c.to_be_bytes.ensures, c.to_be_bytes-2.ensures, c.to_be_bytes-3.ensures) at c.from_be_bytes.ensures in omega arith
