-- `namespaces::spaces::resolve` meets its contract: the numbers that are held and those of what is left are the tag's.
use Prim.Native.Nat.{◌≤◌}
use mathlib.Core.Path.{◌≡◌}
use lib.ListN.{length}
use Rattle.lexer.specs.Attrs.{attrs_in}
use Rattle.reader.specs.Stored.{codes_of}
use Rattle.reader.proofs.Resolving.{Resolving}
use Rattle.namespaces.proofs.spaces.resolve.Given as goal

abbrev pub invariant-loop-i : goal.invariant-loop-i
invariant-loop-i l = (length l.initial.spaces ≡ 16) × (l.i-end ≤ 16) × Resolving (codes_of l.s l.in_scope.own.now l.in_scope.owned l.in_scope.outer.now l.in_scope.bound) l.attrs l.i-end (attrs_in l.attrs l.count) l.initial.spaces l.spaces l.i
