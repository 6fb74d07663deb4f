-- `openings::entering::next_strands` meets its contract: by what the parent's section is.
use native.Mathlib.Omega.{arith}
use borrow.Author.Rules.{rules}
use Rattle.strands.specs.Levels.{level_spaces, level_strands}
use Rattle.openings.proofs.Deciding.{at_root, at_same, at_new}
use Rattle.reader.specs.Namespaces.{uri_of}
use Rattle.reader.specs.Stored.{stored_space}
use Rattle.openings.proofs.entering.next_strands.Goals as goal

pub returns-then-depth-eq0 : goal.returns-then-depth-eq0
returns-then-depth-eq0 c =
    let a = c.args in
    at_root a.index.now a.scene.now (uri_of a.scene.now (stored_space a.own.now a.outer.now a.found)) (level_spaces a.levels.now) (level_strands a.levels.now) a.placing.class a.depth _ _ _ _ _
    c.if-depth-eq0.true c.take_rules.ensures

pub stay_all-requires : goal.stay_all-requires
stay_all-requires c = let few = c.requires.1 (omega (arith, c.if-depth-eq0.false)) in search (rules, few)

pub returns-then-joins : goal.returns-then-joins
returns-then-joins c =
    let a = c.args in
    at_same a.index.now a.scene.now (uri_of a.scene.now (stored_space a.own.now a.outer.now a.found)) (level_spaces a.levels.now) (level_strands a.levels.now) a.placing.class a.depth _ _ _ _
    c.if-depth-eq0.false _ c.joins.ensures c.if-joins.true _ c.count_at-n.ensures (c.requires.1 (omega (arith, c.if-depth-eq0.false))) c.stay_all.ensures

pub take_all-requires : goal.take_all-requires
take_all-requires c = let few = c.requires.1 (omega (arith, c.if-depth-eq0.false)) in search (rules, few)

pub returns : goal.returns
returns c =
    let a = c.args in
    at_new a.index.now a.scene.now (uri_of a.scene.now (stored_space a.own.now a.outer.now a.found)) (level_spaces a.levels.now) (level_strands a.levels.now) a.placing.class a.depth _ _ _ _
    c.if-depth-eq0.false _ c.joins.ensures c.if-joins.false _ c.count_at-n.ensures _ c.take_all.ensures
