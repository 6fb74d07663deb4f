-- `judging::words_of` meets its contract: at each turn the words before the k-th are laid down.
use Prim.Native.Nat.{ℕ, ◌<◌}
use mathlib.Core.Path.{◌≡◌}
use lib.ListN.{length, get_or}
use Rattle.table.specs.Table.{word_at}
use Rattle.judging.proofs.words_of.Given as goal

abbrev pub invariant-loop-k : goal.invariant-loop-k
invariant-loop-k l = (length l.words ≡ 256) × ((j : ℕ) → j < l.k → get_or l.words j 0 ≡ word_at l.table j)
