-- `delivers` reads bit 8, and that the action is not unwrap.
use Rattle.strands.proofs.Words.{delivers_is}
use Rattle.strands.proofs.packed.delivers.Goals as goal

pub returns : goal.returns
returns c = delivers_is c.args.w
