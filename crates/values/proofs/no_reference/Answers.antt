-- `values::no_reference` meets its contract.
use native.Mathlib.Omega.{arith}
use Rattle.lexer.proofs.References.{none_cut, none_bad}
use Rattle.values.proofs.no_reference.Goals as goal

pub returns-then-s-at : goal.returns-then-s-at
returns-then-s-at c = none_cut _ _ _ c.furthest_at-k.ensures (omega arith)

pub returns-then-s-at-2 : goal.returns-then-s-at-2
returns-then-s-at-2 c = none_cut _ _ _ c.furthest_at-k.ensures (omega arith)

pub returns : goal.returns
returns c = none_bad _ _ _ c.furthest_at-k.ensures (omega arith)
