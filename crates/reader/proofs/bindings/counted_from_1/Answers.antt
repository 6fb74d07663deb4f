-- `reader::bindings::counted_from_1` meets its contract: one less, where there is one.
use Rattle.reader.proofs.Seek.{counted_less}
use Rattle.reader.proofs.bindings.counted_from_1.Goals as goal

pub returns : goal.returns
returns c = counted_less _ _ c.checked_sub.ensures
