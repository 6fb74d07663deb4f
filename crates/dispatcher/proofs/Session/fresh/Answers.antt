use mathlib.Core.Path.{ap}
use mathlib.Core.Bool.{false}
use lib.ListN.{replicate}
use Rattle.reader.specs.declared.Scope.{Scope}
use Rattle.dispatcher.proofs.Session.fresh.Goals as goal

pub returns : goal.returns
returns c =
    ap
    (λ (x : Scope). record { place = 0; units = 0; closed = false; awaited = false; scope = x; spaces = replicate 256 0; strands = replicate 1024 0 })
    c.fresh.ensures
