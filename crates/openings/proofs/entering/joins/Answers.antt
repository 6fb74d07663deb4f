-- `openings::entering::joins` meets its contract: the level's class, or its URI.
use Rattle.strands.specs.Levels.{level_spaces}
use Rattle.openings.proofs.Deciding.{by_class, by_uri}
use Rattle.openings.proofs.entering.joins.Goals as goal

pub returns-then-class-ne255 : goal.returns-then-class-ne255
returns-then-class-ne255 c = let a = c.args in by_class (level_spaces a.levels.now) a.level _ _ c.space_at-class.ensures _ c.if-class-ne255.true

pub returns : goal.returns
returns c =
    let a = c.args in
    by_uri (level_spaces a.levels.now) a.level a.placing.class _ c.space_at-class.ensures _ _ _ _ _ _ c.if-class-ne255.false c.space_at-at.ensures c.space_at-len.ensures c.part_of.ensures.bytes c.has_uri.ensures
