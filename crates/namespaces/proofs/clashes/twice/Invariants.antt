-- `namespaces::clashes::twice` meets its contract: at each turn the answer is that of the attributes that are left.
use Prim.Native.Nat.{◌≤◌}
use mathlib.Core.Path.{◌≡◌}
use lib.ListN.{drop}
use Rattle.laws.specs.Lists.{any_pair}
use Rattle.lexer.specs.Attrs.{attrs_in}
use Rattle.reader.specs.Stored.{coded, clashes, twice_in}
use Rattle.namespaces.proofs.clashes.twice.Given as goal

abbrev pub invariant-loop-i : goal.invariant-loop-i
invariant-loop-i l = (l.most ≤ 16) × (any_pair (clashes l.s l.own l.outer) (drop l.i (coded (attrs_in l.attrs l.count) l.spaces)) ≡ twice_in l.s l.own l.outer (attrs_in l.attrs l.count) l.spaces)
