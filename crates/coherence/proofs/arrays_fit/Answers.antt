-- `arrays_fit` meets its contract.
use Rattle.std.proofs.Common.{arith}
use Rattle.std.proofs.lemmas.Grind.{common_steps}
use Rattle.coherence.specs.Checks.{arrays_fit}
use Rattle.coherence.proofs.arrays_fit.Goals as goal

pub returns-then-bindings_fit : goal.returns-then-bindings_fit
unfolding arrays_fit
returns-then-bindings_fit c = grind (arith, common_steps)

pub returns-else-bindings_fit : goal.returns-else-bindings_fit
unfolding arrays_fit
returns-else-bindings_fit c = grind (arith, common_steps)
