-- `attributes::held::placed` meets its contract: a listed class has no place.
use mathlib.Core.Path.{◌∙◌}
use Rattle.attributes.proofs.Known.{placed_unlisted, placed_listed}
use Rattle.attributes.proofs.held.placed.Goals as goal

pub returns-then-class-eq255 : goal.returns-then-class-eq255
returns-then-class-eq255 c = let a = c.args in placed_unlisted a.class a.uri c.if-class-eq255.true

pub returns-else-class-eq255 : goal.returns-else-class-eq255
returns-else-class-eq255 c = let a = c.args in c.without_place.ensures ∙ placed_listed a.class a.uri c.if-class-eq255.false
