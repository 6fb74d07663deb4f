-- `layout::storing::packs_strand` meets its contract.
use Rattle.layout.proofs.Packs.{packs_by}
use Rattle.layout.proofs.storing.packs_strand.Goals as goal

pub returns : goal.returns
returns c = packs_by c.args.w
