-- `attributes::sections::number_sections` meets its contract: after each turn one more attribute has its number.
use mathlib.Core.Path.{◌≡◌}
use Prim.Native.Nat.{◌≤◌}
use lib.ListN.{length}
use Rattle.reader.specs.Stored.{stored_space}
use Rattle.attributes.specs.Attributes.{attributes_in, sections_in}
use Rattle.attributes.proofs.Numbering.{Numbering, namespace_at}
use Rattle.attributes.proofs.sections.number_sections.Given as goal

abbrev pub invariant-loop-i : goal.invariant-loop-i
invariant-loop-i l =
    (l.i ≤ l.n) × (length l.attributes ≡ length l.initial.attributes) × (attributes_in l.attributes ≡ attributes_in l.initial.attributes)
    × Numbering l.s (stored_space l.own l.outer l.element) (namespace_at l.own l.outer (attributes_in l.initial.attributes)) (sections_in l.initial.attributes) (sections_in l.attributes) l.m l.i

-- the number of an attribute's section, by what the array had at first
