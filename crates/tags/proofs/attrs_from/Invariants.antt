-- `tags::attrs_from` meets its contract: at each turn the answer is that of the attributes stored and of those from `at` on.
use Prim.Native.Nat.{◌-◌}
use Rattle.lexer.proofs.Filled.{Filled}
use Rattle.tags.proofs.attrs_from.Given as goal

abbrev pub invariant-loop-next : goal.invariant-loop-next
invariant-loop-next l = Filled l.s l.name l.initial.attrs l.attrs l.count l.at

abbrev pub decreases-loop-next : goal.decreases-loop-next
decreases-loop-next l = 16 - l.count
