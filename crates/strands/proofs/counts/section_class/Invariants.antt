-- `strands::counts::section_class` meets its contract: the first attribute of the section from k on is the first of all.
use Prim.Native.Nat.{◌-◌, ◌≤◌}
use mathlib.Core.Path.{◌≡◌}
use Rattle.laws.specs.Lists.{tabulate}
use Rattle.attributes.specs.Attributes.{attributes_in, sections_in, sorted_held, sorted_in}
use Rattle.strands.specs.Writing.{members, head_class}
use Rattle.strands.proofs.counts.section_class.Given as goal

abbrev pub invariant-loop-k : goal.invariant-loop-k
invariant-loop-k l = (l.k ≤ l.n) × (head_class (members (tabulate (sorted_in (attributes_in l.attributes) (sections_in l.attributes)) l.k (l.n - l.k)) l.j) ≡ head_class (members (sorted_held l.attributes l.n) l.j))
