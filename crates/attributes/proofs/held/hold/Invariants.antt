-- `attributes::held::hold` meets its contract: what is held and what is left are the attributes that are no declarations.
use Rattle.attributes.proofs.Known.{Holds}
use Rattle.attributes.proofs.held.hold.Given as goal

abbrev pub invariant-loop-i : goal.invariant-loop-i
invariant-loop-i l = Holds l.s l.own l.outer l.bound l.known l.attrs l.count l.codes l.i-end l.initial.attributes l.attributes l.n l.i
