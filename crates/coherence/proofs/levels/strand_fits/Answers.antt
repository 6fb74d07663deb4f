-- `levels::strand_fits` meets its contract.
use native.Mathlib.Omega.{arith}
use Rattle.coherence.proofs.CheckTurns.{strand_past, strand_aimed, strand_unaimed}
use Rattle.coherence.proofs.levels.strand_fits.Goals as goal

pub returns-then-aimed : goal.returns-then-aimed
returns-then-aimed c = let a = c.args in strand_aimed a.w a.modes a.units (omega arith) c.if-aimed.true

pub returns-else-aimed : goal.returns-else-aimed
returns-else-aimed c = let a = c.args in strand_unaimed a.w a.modes a.units (omega arith) c.if-aimed.false

pub returns-else-w-from : goal.returns-else-w-from
returns-else-w-from c = let a = c.args in rw c.from.ensures (strand_past a.w a.modes a.units (omega arith))
