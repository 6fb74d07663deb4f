-- `names::ends_whole` meets its contract: at each turn the machine that the bytes cut is where `b` is, and `f` is what a character that is not whole says.
use Prim.Native.Nat.{◌+◌}
use Rattle.coherence.proofs.NameChecks.{Cutting}
use Rattle.coherence.proofs.names.ends_whole.Given as goal

abbrev pub invariant-loop-b : goal.invariant-loop-b
invariant-loop-b l = Cutting l.name l.at l.f (l.at + l.b-index)
