-- `layout::storing::head_in` meets its contract.
use Rattle.layout.proofs.Lent.{head_read}
use Rattle.layout.proofs.storing.head_in.Goals as goal

pub returns : goal.returns
returns c = head_read c.args.b.now _ _ _ _ c.word8_at.ensures c.word8_at-2.ensures c.word8_at-3.ensures c.word8_at-4.ensures
