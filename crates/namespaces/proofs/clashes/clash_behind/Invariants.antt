-- `namespaces::clashes::clash_behind` meets its contract: at each turn the answer is that of the attributes that are left.
use Prim.Native.Nat.{◌+◌, ◌≤◌}
use mathlib.Core.Path.{◌≡◌}
use lib.ListN.{drop}
use Rattle.laws.specs.Lists.{any}
use Rattle.lexer.specs.Attrs.{attrs_in}
use Rattle.reader.specs.Stored.{coded, coded_at, clashes}
use Rattle.namespaces.proofs.clashes.clash_behind.Given as goal

abbrev pub invariant-loop-j : goal.invariant-loop-j
invariant-loop-j l =
    (l.j-end ≤ 16)
    × (l.i + 1 ≤ l.j)
    × (any (clashes l.s l.own l.outer (coded_at l.attrs l.spaces l.i)) (drop l.j (coded (attrs_in l.attrs l.count) l.spaces)) ≡ any (clashes l.s l.own l.outer (coded_at l.attrs l.spaces l.i)) (drop (l.i + 1) (coded (attrs_in l.attrs l.count) l.spaces)))
