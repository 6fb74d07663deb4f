-- `attributes::sections::section_of` meets its contract: at each turn the answer is that of the attributes that are left.
use mathlib.Core.Path.{◌≡◌}
use Prim.Native.Nat.{◌+◌, ◌-◌}
use Rattle.laws.specs.Lists.{tabulate}
use Rattle.attributes.specs.Attributes.{namespace_of, given_in, attributes_in, sections_in, number_among, numbered_in}
use Rattle.attributes.proofs.sections.section_of.Given as goal

abbrev pub invariant-loop-k : goal.invariant-loop-k
invariant-loop-k l = number_among l.s (namespace_of l.own l.outer (given_in (attributes_in l.attributes) l.i).code) (l.m + 1) (tabulate (numbered_in l.own l.outer (attributes_in l.attributes) (sections_in l.attributes)) l.k (l.i - l.k)) ≡ number_among l.s (namespace_of l.own l.outer (given_in (attributes_in l.attributes) l.i).code) (l.m + 1) (tabulate (numbered_in l.own l.outer (attributes_in l.attributes) (sections_in l.attributes)) 0 l.i)
