-- `scopes::name_in` meets its contract, also past the array.
use mathlib.Core.Path.{refl}
use Rattle.reader.specs.Scope.{name_in}
use Rattle.reader.proofs.Levels.{unnamed}
use Rattle.reader.proofs.scopes.name_in.Goals as goal

pub returns-then-k-ge-DEPTH : goal.returns-then-k-ge-DEPTH
returns-then-k-ge-DEPTH c = unnamed c.args.levels.now c.args.k c.told-levels c.if-k-ge-DEPTH.true

pub returns : goal.returns
unfolding name_in
returns c = refl
