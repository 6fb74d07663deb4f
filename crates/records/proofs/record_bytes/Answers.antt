-- `record_bytes` gives a row's bytes.
use native.Mathlib.Omega.{arith}
use Rattle.records.proofs.Bytes.{row_bytes_lem}
use Rattle.records.proofs.record_bytes.Goals as goal

pub returns : goal.returns
returns c =
    rw (c.to_be_bytes.ensures, c.to_be_bytes-2.ensures, c.to_be_bytes-3.ensures, c.to_be_bytes-4.ensures, c.to_be_bytes-5.ensures)
    (row_bytes_lem c.args.r (omega arith) (omega arith))
