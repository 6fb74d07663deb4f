-- `aimed` puts a unit's number behind the eight bits that a strand without a target fills.
use Rattle.strands.proofs.Words.{aimed_is}
use Rattle.strands.proofs.packed.aimed.Goals as goal

pub returns : goal.returns
returns c = aimed_is c.args.w c.args.unit
