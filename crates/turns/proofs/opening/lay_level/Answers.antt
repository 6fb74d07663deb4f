-- `opening::lay_level` meets its contract: the level laid down, the records as counted.
use Rattle.strands.specs.Levels.{level_names, level_spaces, level_strands}
use Rattle.turns.proofs.OpeningTurns.{laid_start}
use Rattle.turns.proofs.opening.lay_level.Goals as goal

pub returns : goal.returns
returns c =
    let a = c.args in
    let p = c.push_start.ensures in record {
      bindings_after = λ table index s schemas attributes q ready as-planned.
          laid_start table index s a.scratch.now.own a.scratch.now.words schemas attributes a.started a.placing a.decided a.head (level_names a.levels.now) a.bindings.now (level_spaces a.levels.now) (level_strands a.levels.now) q
          ready as-planned c.opened_head.result _ _ _ _ c.opened_head.ensures p.0 p.1 p.2 p.3;
      levels_unchanged = p.4;
    }
