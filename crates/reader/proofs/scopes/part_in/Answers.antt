-- `scopes::part_in` meets its contract: the colon lies inside the name and inside the scene, so nothing wraps.
use native.Mathlib.Omega.{arith}
use Rattle.reader.proofs.Colons.{part_fits, part_is}
use Rattle.reader.proofs.scopes.part_in.Goals as goal

pub overflow_add-result : goal.overflow_add-result
overflow_add-result c = omega (arith, part_fits c.args.s.now c.args.name _ c.colon_end-k.result c.part_of.ensures.bytes c.colon_end-k.ensures)

pub overflow_sub-result : goal.overflow_sub-result
overflow_sub-result c = (part_fits c.args.s.now c.args.name _ c.colon_end-k.result c.part_of.ensures.bytes c.colon_end-k.ensures).0

pub returns : goal.returns
returns c = part_is c.args.s.now c.args.name _ c.colon_end-k.result c.part_of.ensures.bytes c.colon_end-k.ensures
