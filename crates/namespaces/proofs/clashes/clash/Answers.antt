-- `namespaces::clashes::clash` meets its contract, at each way out.
use mathlib.Core.Path.{◌∙◌}
use Rattle.reader.proofs.Clashing.{clash_named, clash_apart, clash_space}
use Rattle.namespaces.proofs.clashes.clash.Goals as goal

pub returns-then-same_name : goal.returns-then-same_name
returns-then-same_name c = search clash_named

pub returns-then-named : goal.returns-then-named
returns-then-named c =
    clash_space _ _ _ _ _ _ _ _ c.same_name.ensures c.if-same_name.false _ _ _ c.declares.ensures c.declares-2.ensures c.same_part.ensures c.if-named.true _ _ c.found_in.ensures c.found_in-then-named.ensures _ c.same_space.ensures

pub returns-else-named : goal.returns-else-named
returns-else-named c =
    c.if-named.false ∙ clash_apart _ _ _ _ _ _ _ _ c.same_name.ensures c.if-same_name.false _ _ _ c.declares.ensures c.declares-2.ensures c.same_part.ensures c.if-named.false
