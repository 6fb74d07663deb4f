-- `tags::put_attr` meets its contract: its five stores are one part laid over the array.
use native.Mathlib.Omega.{arith}
use lib.ListN.{length-set}
use Rattle.lexer.proofs.Arrays.{five_over}
use Rattle.tags.proofs.put_attr.Goals as goal

pub bounds-numbers-at-2 : goal.bounds-numbers-at-2
bounds-numbers-at-2 c = simp length-set (omega arith)

pub bounds-numbers-at-3 : goal.bounds-numbers-at-3
bounds-numbers-at-3 c = simp length-set (omega arith)

pub bounds-numbers-at-4 : goal.bounds-numbers-at-4
bounds-numbers-at-4 c = simp length-set (omega arith)

pub bounds-numbers-at-5 : goal.bounds-numbers-at-5
bounds-numbers-at-5 c = simp length-set (omega arith)

pub returns : goal.returns
returns c = five_over _ _ _ _ _ _ _ (omega arith)
