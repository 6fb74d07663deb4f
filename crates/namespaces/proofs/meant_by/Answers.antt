-- `namespaces::meant_by` meets its contract, at each way out.
use Rattle.laws.specs.Tests.{tests}
use Rattle.reader.proofs.Whole.{no_element, no_attribute, element}
use mathlib.Core.Bool.{not}
use mathlib.Core.Path.{ap}
use Rattle.namespaces.proofs.meant_by.Goals as goal

pub returns-then-is_unbound : goal.returns-then-is_unbound
returns-then-is_unbound c =
    no_element _ _ _ _ _ _ _ _ _ _ c.find_element-found.ensures c.is_unbound.ensures c.if-is_unbound.true

pub returns-then-not-resolve_all : goal.returns-then-not-resolve_all
returns-then-not-resolve_all c =
    let p = c in
    let r = c.resolve_all.ensures in
    no_attribute _ _ _ _ _ _ _ _ _ _ p.find_element-found.ensures p.is_unbound.ensures _ _ p.if-is_unbound.false r.0 r.1 (ap not c.if-not-resolve_all.true)

pub returns-then-twice : goal.returns-then-twice
returns-then-twice c =
    let p = c in
    let r = c.resolve_all.ensures in
    element _ _ _ _ _ _ _ _ _ _ p.find_element-found.ensures p.is_unbound.ensures _ _ p.if-is_unbound.false r.0 r.1 (ap not c.if-not-resolve_all.false) _ _ c.twice.ensures (search tests)

pub returns : goal.returns
returns c =
    let p = c in
    let r = c.resolve_all.ensures in
    element _ _ _ _ _ _ _ _ _ _ p.find_element-found.ensures p.is_unbound.ensures _ _ p.if-is_unbound.false r.0 r.1 (ap not c.if-not-resolve_all.false) _ _ c.twice.ensures (search tests)
