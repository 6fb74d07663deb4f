-- `misc::instructions::is_declared` meets its contract: at another place, or with fewer bytes, it is not.
use native.Mathlib.Omega.{arith}
use lib.ListN.{length}
use Rattle.misc.proofs.MiscTurns.{declared_room, declared_not, declared_here}
use Rattle.misc.proofs.instructions.is_declared.Goals as goal

pub returns-then-at-s : goal.returns-then-at-s
returns-then-at-s c = search declared_not

pub bounds-s-2 : goal.bounds-s-2
bounds-s-2 c = let a = c.args in omega (arith, declared_room (length a.s.now) a.at c.if-at-s.false)

pub bounds-s-3 : goal.bounds-s-3
bounds-s-3 c = let a = c.args in omega (arith, declared_room (length a.s.now) a.at c.if-at-s.false)

pub bounds-s-4 : goal.bounds-s-4
bounds-s-4 c = let a = c.args in omega (arith, declared_room (length a.s.now) a.at c.if-at-s.false)

pub returns : goal.returns
returns c = search declared_here
