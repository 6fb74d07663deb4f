-- `judging::words_of` meets its contract: at each turn the words before the k-th are laid down.
use Prim.Native.Nat.{ℕ}
use mathlib.Core.Path.{◌≡◌, refl}
use native.Mathlib.Omega.{arith}
use borrow.Author.Count.{below_none}
use lib.ListN.{length-set}
use Rattle.laws.proofs.Filled.{filled_more}
use Rattle.table.specs.Table.{word_at}
use Rattle.judging.proofs.words_of.Goals as goal

pub loop-k-init : goal.loop-k-init
loop-k-init c = (refl, below_none _)

pub loop-k-preserved : goal.loop-k-preserved
loop-k-preserved c =
    let l = c in
    let t = l.args.table.now in
    let more = filled_more (λ (j w : ℕ). w ≡ word_at t j) l.loop-k.words l.loop-k.k c.word_at.result 0 (omega arith) l.loop-k.invariant.1 c.word_at.ensures in
    rw c.from.ensures (simp length-set l.loop-k.invariant.0, more)

pub returns : goal.returns
returns c = λ j h. c.loop-k.invariant.1 j (omega arith)
