-- `attributes::held::space_of` meets its contract, by what was found.
use mathlib.Core.Logic.{⊎_elim}
use Rattle.attributes.proofs.Known.{placed_nothing, placed_xml, placed_unbound, placed_own, placed_open}
use Rattle.attributes.proofs.held.space_of.Goals as goal

pub returns-in-Nothing : goal.returns-in-Nothing
returns-in-Nothing c =
    let a = c.args in
    rw c.without_place.ensures (⊎_elim (placed_nothing a.own.now a.outer.now a.bound a.known.now _) (placed_unbound a.own.now a.outer.now a.bound a.known.now _) c.in-Nothing.is)

pub returns-in-Xml : goal.returns-in-Xml
returns-in-Xml c = let a = c.args in rw c.without_place-in-Xml.ensures (placed_xml a.own.now a.outer.now a.bound a.known.now _ c.in-Xml.is)

pub returns-in-Own : goal.returns-in-Own
returns-in-Own c =
    let a = c.args in
    placed_own a.own.now a.outer.now a.bound a.known.now _ _ _ _ _ c.placed.ensures c.in-Own.is c.binding_in-b.ensures c.known_class.ensures

pub returns-in-Open : goal.returns-in-Open
returns-in-Open c =
    let a = c.args in
    placed_open a.own.now a.outer.now a.bound a.known.now _ _ _ _ _ c.placed-in-Open.ensures c.in-Open.is c.binding_in-b-in-Open.ensures c.known_class-in-Open.ensures
