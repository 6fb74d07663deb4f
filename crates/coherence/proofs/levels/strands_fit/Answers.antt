-- `levels::strands_fit` meets its contract.
use Rattle.std.proofs.Common.{ℕ, ◌∙◌, rules, tests}
use Rattle.std.proofs.lemmas.Iterator.{YieldsList-from_slice}
use Rattle.std.proofs.lemmas.Iterator.Search.{all_from_yields_List}
use Rattle.strands.specs.Packed.{strand_in}
use Rattle.coherence.specs.Checks.{strand_fits}
use Rattle.coherence.proofs.Alls.{all_listed}
use Rattle.coherence.proofs.levels.strands_fit.Goals as goal

pub returns : goal.returns
returns c =
    let a = c.args in
    let fits = λ (w : ℕ). strand_fits a.modes a.units (strand_in w) in
    all_from_yields_List fits _ _ c.all.result c.all.ensures.ran (YieldsList-from_slice a.words.now (cc)) (λ x b q k. search (rules, tests))
    ∙ all_listed (strand_fits a.modes a.units) strand_in a.words.now
