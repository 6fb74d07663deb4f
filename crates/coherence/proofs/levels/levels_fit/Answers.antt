-- `levels::levels_fit` meets its contract.
use Rattle.std.proofs.Common.{ℕ, Bool, refl, ◌∙◌, arith, rules, tests}
use Rattle.std.proofs.lemmas.Iterator.{YieldsList-from_range}
use Rattle.std.proofs.lemmas.Iterator.Search.{all_from_yields_List}
use Rattle.strands.specs.Levels.{level_names, level_spaces, level_strands}
use Rattle.coherence.specs.Checks.{level_fits}
use Rattle.coherence.proofs.Alls.{all_ranged}
use Rattle.coherence.proofs.levels.levels_fit.Goals as goal

pub returns : goal.returns
returns c =
    let a = c.args in
    let fits : ℕ → Bool = level_fits a.scene.now a.listed a.modes a.units (level_names a.levels.now) (level_spaces a.levels.now) (level_strands a.levels.now) in
    all_from_yields_List fits _ _ c.all.result c.all.ensures.ran (YieldsList-from_range 0 a.depth a.depth refl (omega arith)) (λ x b q k. search (rules, tests))
    ∙ all_ranged fits (λ (k : ℕ). k) 0 a.depth
