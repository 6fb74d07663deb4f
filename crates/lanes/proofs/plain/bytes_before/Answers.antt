-- `lanes::plain::bytes_before` meets its contract: eight zeros of a number are a lane.
use Rattle.std.proofs.Common.{arith}
use Rattle.lanes.proofs.Lanes.{counted}
use Rattle.lanes.proofs.plain.bytes_before.Goals as goal

pub overflow_cast-result : goal.overflow_cast-result
overflow_cast-result c = omega (arith, (counted c.args.bits).0)

pub returns : goal.returns
returns c = counted c.args.bits
