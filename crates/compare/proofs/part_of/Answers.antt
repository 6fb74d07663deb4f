-- `compare::part_of` meets its contract, at each of its ends.
use native.Mathlib.Omega.{arith}
use Rattle.compare.proofs.Span.{past, fewer, at_start, at_place}
use Rattle.compare.proofs.part_of.Goals as goal

pub returns-then-len-at : goal.returns-then-len-at
returns-then-len-at c = let a = c.args in record {
  bytes = past a.s.now a.at a.n (omega arith);
  place = at_start a.s a.at (omega arith);
}

pub returns-clause-bytes : goal.returns-clause-bytes
returns-clause-bytes c = rw c.min.ensures (fewer c.args.s.now c.args.at c.args.n)

pub returns-clause-place : goal.returns-clause-place
returns-clause-place c = search at_place
