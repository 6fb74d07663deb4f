-- `strands::entries::stay_all` meets its contract: what is laid and what is left are the level's strands, which stay.
use mathlib.Core.Path.{◌∙◌}
use native.Mathlib.Omega.{arith}
use borrow.Author.Rules.{rules}
use lib.ListN.{length-set}
use Rattle.strands.specs.Levels.{level_strands}
use Rattle.entries.proofs.Laying.{stay_start, stay_one, stay_end}
use Rattle.entries.proofs.stay_all.Goals as goal

pub loop-j-init : goal.loop-j-init
loop-j-init c =
    let a = c.args in
    (omega arith, search rules, search rules, omega arith, omega arith, omega arith, omega arith, stay_start (level_strands a.levels.now) a.level a.n a.words.now a.schemas.now a.words.now a.schemas.now)

pub loop-j-preserved : goal.loop-j-preserved
loop-j-preserved c =
    let a = c.args in
    let l = c.loop-j in
    let v = c.stay_of in
    let w = c.strand_at in
    let t = c.loop-j-test.true in (
      omega arith,
      l.invariant.1,
      l.invariant.2,
      l.invariant.3,
      l.invariant.4,
      length-set l.words l.j v.result ∙ l.invariant.5,
      length-set l.schemas l.j 0 ∙ l.invariant.6,
      stay_one (level_strands a.levels.now) a.level a.n a.words.now a.schemas.now l.words l.schemas l.j l.invariant.7 t l.invariant.1 l.invariant.3 l.invariant.4 w.result v.result w.ensures v.ensures,
    )

pub returns : goal.returns
returns c =
    let a = c.args in
    let l = c.loop-j in
    stay_end (level_strands a.levels.now) a.level a.n a.words.now a.schemas.now l.words l.schemas l.j l.invariant.7 c.loop-j-test.false (omega (arith, l.invariant.0, l.invariant.1))
