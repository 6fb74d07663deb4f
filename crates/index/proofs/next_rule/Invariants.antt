-- `index::next_rule` meets its contract: at each turn the answer is that of the rules from the i-th on.
use Prim.Native.Nat.{◌-◌, ◌≤◌}
use mathlib.Core.Path.{◌≡◌}
use Rattle.table.specs.Index.{next_from, next_rule}
use Rattle.index.proofs.next_rule.Given as goal

abbrev pub invariant-loop-i : goal.invariant-loop-i
invariant-loop-i l = (l.last ≤ 128) × (next_from l.index l.last l.key l.i (l.last - l.i) ≡ next_rule l.index l.from l.end l.key)
