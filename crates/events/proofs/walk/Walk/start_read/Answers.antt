-- `Walk::start_read` meets its contract: the keys of the open bindings are laid down before the tag's meaning is asked.
use Prim.Native.Nat.{ℕ, ◌+◌, ◌≤◌}
use native.Mathlib.Omega.{arith}
use borrow.Author.Rules.{rules}
use lib.ListN.{length, replicate, length-replicate}
use Rattle.reader.proofs.Known.{keys_laid}
use Rattle.events.proofs.walk.Walk.start_read.Goals as goal

room : (n : ℕ) → n ≤ 64 → 0 + n ≤ length (replicate {A = ℕ} 160 0)
room n h = rw (length-replicate {A = ℕ} 160 0) (omega arith)

pub meaning-m-requires : goal.meaning-m-requires
meaning-m-requires g c =
    let few : c.min-bound.result ≤ 64 = search rules in
    (few, keys_laid _ _ c.min-bound.result 0 (replicate 160 0) _ (room c.min-bound.result few) c.put_keys.ensures, search rules)
