-- `misc::instructions::is_xml` meets its contract: a part of another length is not xml, and a longer one than the scene has no third byte.
use native.Mathlib.Omega.{arith}
use lib.ListN.{length}
use Rattle.misc.proofs.MiscTurns.{xml_room, xml_short, xml_far, xml_here}
use Rattle.misc.proofs.instructions.is_xml.Goals as goal

pub returns-then-end-s : goal.returns-then-end-s
returns-then-end-s c = search xml_short

pub overflow_sub-end : goal.overflow_sub-end
overflow_sub-end c = let a = c.args in omega (arith, xml_room (length a.s.now) a.end c.if-end-s.false)

pub returns-then-end-at : goal.returns-then-end-at
returns-then-end-at c = search xml_far

pub bounds-s-at : goal.bounds-s-at
bounds-s-at c = let a = c.args in omega (arith, xml_room (length a.s.now) a.end c.if-end-s.false)

pub bounds-s-at-2 : goal.bounds-s-at-2
bounds-s-at-2 c = let a = c.args in omega (arith, xml_room (length a.s.now) a.end c.if-end-s.false)

pub bounds-s-at-3 : goal.bounds-s-at-3
bounds-s-at-3 c = let a = c.args in omega (arith, xml_room (length a.s.now) a.end c.if-end-s.false)

pub returns : goal.returns
returns c = search xml_here
