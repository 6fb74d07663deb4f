-- `bindings::bindings_fit` meets its contract.
use Rattle.std.proofs.Common.{ℕ, refl, ◌∙◌, arith, rules, tests}
use Rattle.std.proofs.lemmas.Iterator.{YieldsList-from_range}
use Rattle.std.proofs.lemmas.Iterator.Search.{all_from_yields_List}
use Rattle.reader.specs.Stored.{binding_in}
use Rattle.coherence.specs.Checks.{binding_fits}
use Rattle.coherence.proofs.Alls.{all_ranged}
use Rattle.coherence.proofs.bindings.bindings_fit.Goals as goal

pub returns : goal.returns
returns c =
    let a = c.args in
    let fits = λ (k : ℕ). binding_fits a.scene.now (binding_in a.bindings.now k) in
    all_from_yields_List fits _ _ c.all.result c.all.ensures.ran (YieldsList-from_range 0 a.bound a.bound refl (omega arith)) (λ x b q k. search (rules, tests))
    ∙ all_ranged (binding_fits a.scene.now) (binding_in a.bindings.now) 0 a.bound
