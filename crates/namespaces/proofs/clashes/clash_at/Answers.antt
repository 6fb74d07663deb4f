-- `namespaces::clashes::clash_at` meets its contract: what it read of the arrays are the two attributes with their codes.
use Rattle.namespaces.proofs.clashes.clash_at.Goals as goal

pub returns : goal.returns
returns c =
    rw (← c.attr_in-a.ensures, ← c.attr_in-b.ensures) c.clash.ensures
