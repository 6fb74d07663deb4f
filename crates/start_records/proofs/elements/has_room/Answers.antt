-- `has_room` tells whether bytes fit.
use mathlib.Core.Path.{◌∙◌}
use borrow.Author.Tests.{lt-leb}
use Rattle.start_records.proofs.Copies.{room_late, room_left}
use Rattle.start_records.proofs.elements.has_room.Goals as goal

pub returns-then-from-size : goal.returns-then-from-size
returns-then-from-size c = let a = c.args in room_left a.size a.from a.bytes c.if-from-size.true

pub returns-else-from-size : goal.returns-else-from-size
returns-else-from-size c = let a = c.args in lt-leb a.from a.size c.if-from-size.false ∙ room_late a.size a.from a.bytes c.if-from-size.false
