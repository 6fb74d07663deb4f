-- `namespaces::declarations::declare` meets its contract: what is held and what is left are the tag's declarations.
use Prim.Native.Nat.{◌≤◌}
use mathlib.Core.Path.{◌≡◌}
use lib.ListN.{length}
use Rattle.lexer.specs.Attrs.{attrs_in}
use Rattle.reader.proofs.Declaring.{Declaring}
use Rattle.namespaces.proofs.declarations.declare.Given as goal

abbrev pub invariant-loop-i : goal.invariant-loop-i
invariant-loop-i l = (length l.initial.own ≡ 64) × (l.i-end ≤ 16) × Declaring l.s l.attrs l.i-end (attrs_in l.attrs l.count) l.initial.own l.own l.n l.i
