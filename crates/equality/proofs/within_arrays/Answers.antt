-- `within_arrays` meets its contract.
use Rattle.std.proofs.Common.{arith}
use Rattle.std.proofs.lemmas.Bool.Decides.{nat_tests}
use Rattle.equality.specs.Checks.{within_arrays}
use Rattle.equality.proofs.within_arrays.Goals as goal
use Rattle.equality.proofs.within_arrays.Goals.{then-depth-le-DEPTH, else-depth-le-DEPTH}

pub returns-then-bound-le-BINDINGS : goal.returns-then-bound-le-BINDINGS
unfolding within_arrays
returns-then-bound-le-BINDINGS c = elim c.if-depth-le-DEPTH.branch [ then-depth-le-DEPTH w ↦ grind (arith, nat_tests, c.strands_within.ensures) | else-depth-le-DEPTH w ↦ grind (arith, nat_tests) ]

pub returns-else-bound-le-BINDINGS : goal.returns-else-bound-le-BINDINGS
unfolding within_arrays
returns-else-bound-le-BINDINGS c = elim c.if-depth-le-DEPTH.branch [ then-depth-le-DEPTH w ↦ grind (arith, nat_tests) | else-depth-le-DEPTH w ↦ grind (arith, nat_tests) ]
