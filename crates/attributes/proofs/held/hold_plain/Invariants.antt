-- `attributes::held::hold_plain` meets its contract: after each turn one more attribute is held, with section 0.
use mathlib.Core.Path.{◌≡◌}
use lib.ListN.{length}
use Rattle.attributes.specs.Attributes.{attributes_in, sections_in}
use Rattle.attributes.proofs.Plain.{Plainly}
use Rattle.attributes.proofs.held.hold_plain.Given as goal

abbrev pub invariant-loop-i : goal.invariant-loop-i
invariant-loop-i l = (length l.attributes ≡ 144) × Plainly l.attrs l.most (attributes_in l.initial.attributes) (sections_in l.initial.attributes) (attributes_in l.attributes) (sections_in l.attributes) l.i
