-- `Scope::close` meets its contract, at each of its ends.
use native.Mathlib.Omega.{arith}
use Rattle.laws.specs.Tests.{tests}
use Rattle.reader.specs.Scope.{closed_of}
use Rattle.reader.proofs.Levels.{closed}
use Rattle.reader.proofs.Scope.close.Goals as goal
use Rattle.reader.proofs.Scope.close.Goals.{then-depth-eq0-via-then-depth-eq0, then-depth-eq0-via-else-depth-eq0+then-depth-gt-DEPTH}

pub returns-then-depth-eq0 : goal.returns-then-depth-eq0
unfolding closed_of
returns-then-depth-eq0 c =
    elim c.then-depth-eq0.branch [
      | then-depth-eq0-via-then-depth-eq0 w ↦ search tests
      | then-depth-eq0-via-else-depth-eq0+then-depth-gt-DEPTH w ↦ search tests
    ]

pub returns : goal.returns
returns c = closed c.args.self c.if-depth-eq0.false (omega arith) _ c.saturating_sub.ensures
