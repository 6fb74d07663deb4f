-- `same_arrays` meets its contract.
use Rattle.std.proofs.Common.{◌≤◌, not, ap, ◌∙◌, arith}
use Rattle.std.proofs.lemmas.Bool.Decides.{nat_tests}
use Rattle.strands.specs.Levels.{level_spaces}
use Rattle.equality.specs.Checks.{arrays_same}
use Rattle.equality.proofs.Turns.{within_levels, within_bound}
use Rattle.equality.proofs.Bound.{same_bound}
use Rattle.equality.proofs.same_arrays.Goals as goal
use Rattle.equality.proofs.same_arrays.Goals.{then-within_arrays, else-within_arrays}

pub overflow_mul-bound : goal.overflow_mul-bound
overflow_mul-bound c =
    let a = c.args in
    omega (arith, within_bound a.depth a.bound (level_spaces a.levels.now) _ c.within_arrays.ensures c.if-within_arrays.true)

pub shared_ref_as_front-eq : goal.shared_ref_as_front-eq
shared_ref_as_front-eq c =
    let a = c.args in
    omega (arith, within_bound a.depth a.bound (level_spaces a.levels.now) _ c.within_arrays.ensures c.if-within_arrays.true)

pub same_levels-requires : goal.same_levels-requires
same_levels-requires c =
    let a = c.args in
    elim c.if-within_arrays.branch [ then-within_arrays w ↦ within_levels a.depth a.bound (level_spaces a.levels.now) _ c.within_arrays.ensures (ap not w.if-within_arrays.true) | else-within_arrays w ↦ cc ]

pub returns-then-eq : goal.returns-then-eq
unfolding arrays_same
returns-then-eq c =
    let a = c.args in
    elim c.if-within_arrays.branch [
      | then-within_arrays w ↦
          let few : a.bound ≤ 64 = within_bound a.depth a.bound (level_spaces a.levels.now) _ c.within_arrays.ensures w.if-within_arrays.true in
          let e = w.eq.ensures ∙ same_bound a.bound a.bindings.now a.other_bindings.now (omega arith) (omega arith) in
          grind (arith, nat_tests)
      | else-within_arrays w ↦ grind (arith, nat_tests)
    ]

pub returns-else-eq : goal.returns-else-eq
unfolding arrays_same
returns-else-eq c =
    let a = c.args in
    elim c.if-within_arrays.branch [
      | then-within_arrays w ↦
          let few : a.bound ≤ 64 = within_bound a.depth a.bound (level_spaces a.levels.now) _ c.within_arrays.ensures w.if-within_arrays.true in
          let e = w.eq.ensures ∙ same_bound a.bound a.bindings.now a.other_bindings.now (omega arith) (omega arith) in
          grind (arith, nat_tests)
      | else-within_arrays w ↦ grind (arith, nat_tests)
    ]
