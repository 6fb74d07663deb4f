-- `openings::weighing::weigh` meets its contract: the sum of what its callees count.
use mathlib.Core.Path.{sym, ◌∙◌}
use Prim.Native.Nat.{◌+◌}
use Rattle.openings.proofs.Deciding.{Numbers, numbers_none, weigh_heavy, weigh_light}
use Rattle.attributes.specs.Attributes.{sorted_held}
use Rattle.openings.proofs.weighing.weigh.Goals as goal
use Rattle.openings.proofs.weighing.weigh.Goals.{then-here-ne0, else-here-ne0}

pub returns-then-all-gt-UNITS : goal.returns-then-all-gt-UNITS
returns-then-all-gt-UNITS c =
    let a = c.args in
    weigh_heavy a.index.now (sorted_held a.attributes.now a.n) a.n a.m a.count a.units a.words.now a.words.now _ _
    c.load_all-load.ensures.0 c.new_units-here.ensures.0 c.if-all-gt-UNITS.true

pub returns : goal.returns
returns c =
    let a = c.args in
    let d = c.load_all-load.ensures in
    let h = c.new_units-here.ensures.0 in
    let first = a.units + c.load_all-load.result.units in
    let numbered : Numbers a.count first a.words.now c.if-here-ne0.words =
    elim c.if-here-ne0.branch [
      | then-here-ne0 w ↦ λ es el et un. w.words-is ∙ w.number_units.ensures es el et un
      | else-here-ne0 w ↦ λ es el et un. w.words-is ∙ numbers_none a.count first a.words.now (sym h ∙ w.if-here-ne0.false) es el et un
    ] in
    weigh_light a.index.now (sorted_held a.attributes.now a.n) a.n a.m a.count a.units a.words.now _ _ _
    d.0 h c.if-all-gt-UNITS.false _ _ d.1 c.elements_count.ensures.0 numbered
