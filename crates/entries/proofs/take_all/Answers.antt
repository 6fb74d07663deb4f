-- `strands::entries::take_all` meets its contract: what is laid and what the strands behind make are all that the level makes.
use mathlib.Core.Path.{sym, ◌∙◌}
use native.Mathlib.Omega.{arith}
use borrow.Author.Rules.{rules}
use Rattle.strands.specs.Levels.{level_strands}
use Rattle.entries.proofs.Laying.{counted_few, take_start, take_more, take_over, take_end}
use Rattle.entries.proofs.take_all.Goals as goal

pub loop-j-init : goal.loop-j-init
loop-j-init c =
    let a = c.args in
    (omega arith, omega arith, search rules, search rules, take_start (level_strands a.levels.now) a.level a.n a.words.now a.schemas.now a.words.now a.schemas.now a.index.now a.class)

pub returns-in_err-k : goal.returns-in_err-k
returns-in_err-k c =
    let a = c.args in
    let l = c.loop-j in
    let w = c.strand_at-w in
    let r = c.take_rules in
    rw c.from_residual.ensures
    (take_over (level_strands a.levels.now) a.level a.n a.words.now a.schemas.now l.words l.schemas a.index.now a.class l.k l.j l.invariant.4 c.loop-j-test.true w.result w.ensures r.new.words r.new.schemas
    (record { number = sym c.in_err-k.was ∙ r.ensures.0; strands = r.ensures.1; marks = r.ensures.2 }))

pub loop-j-preserved : goal.loop-j-preserved
loop-j-preserved c =
    let a = c.args in
    let l = c.loop-j in
    let w = c.strand_at-w in
    let r = c.take_rules in
    let e = sym c.in_ok-k.was ∙ r.ensures.0 in (
      omega arith,
      counted_few _ _ e,
      l.invariant.2,
      l.invariant.3,
      take_more (level_strands a.levels.now) a.level a.n a.words.now a.schemas.now l.words l.schemas a.index.now a.class l.k l.j l.invariant.4 c.loop-j-test.true w.result w.ensures r.new.words r.new.schemas c.in_ok-k.k
          (record { number = e; strands = r.ensures.1; marks = r.ensures.2 }),
    )

pub returns : goal.returns
returns c =
    let a = c.args in
    let l = c.loop-j in
    take_end (level_strands a.levels.now) a.level a.n a.words.now a.schemas.now l.words l.schemas a.index.now a.class l.k l.j l.invariant.4 c.loop-j-test.false l.invariant.1
