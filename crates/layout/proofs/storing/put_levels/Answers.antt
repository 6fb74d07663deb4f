-- `layout::storing::put_levels` meets its contract: the first k levels are stored.
use mathlib.Core.Path.{refl}
use native.Mathlib.Omega.{arith}
use borrow.Author.Rules.{rules}
use Rattle.strands.specs.Levels.{level_names, level_spaces, level_strands}
use Rattle.strands.proofs.LevelNumbers.{each_long}
use Rattle.layout.proofs.Stored.{levels_start, levels_more, levels_end}
use Rattle.layout.proofs.storing.put_levels.Goals as goal

pub loop-k-init : goal.loop-k-init
loop-k-init c =
    let l = c.args.levels.now in
    (omega arith, refl, levels_start (level_names l) (level_spaces l) (level_strands l) (each_long 3 0 l) (each_long 4 3 l) (each_long 16 8 l) c.args.b.now)

pub loop-k-preserved : goal.loop-k-preserved
loop-k-preserved c =
    let a = c.args in
    let all = a.levels.now in
    let l = c.loop-k in (
      omega arith,
      search rules,
      levels_more (level_names all) (level_spaces all) (level_strands all) (each_long 3 0 all) (each_long 4 3 all) (each_long 16 8 all) a.b.now l.b _ l.k (omega arith) (omega arith) l.invariant.2 c.put_level.ensures,
    )

pub returns : goal.returns
returns c =
    let a = c.args in
    let all = a.levels.now in
    let l = c.loop-k in
    levels_end (level_names all) (level_spaces all) (level_strands all) (each_long 3 0 all) (each_long 4 3 all) (each_long 16 8 all) a.b.now l.b l.k (omega arith) l.invariant.2
