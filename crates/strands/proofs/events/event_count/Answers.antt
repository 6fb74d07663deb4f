-- `event_count` sums what the strands write: that of the first j after j turns.
use mathlib.Core.Path.{sym, ap, ◌∙◌}
use Prim.Native.Nat.{ℕ, ◌+◌, ◌*◌, ◌<◌}
use native.Mathlib.Omega.{arith}
use borrow.Author.Tests.{ltb-true}
use lib.Dec.{ltb}
use lib.ListN.{get_or}
use Rattle.laws.specs.Gather.{total}
use Rattle.laws.proofs.Flags.{and_left}
use Rattle.laws.proofs.Gather.{total_none}
use Rattle.strands.specs.Packed.{words_at}
use Rattle.strands.specs.Levels.{level_strands}
use Rattle.strands.specs.Writing.{event_count}
use Rattle.strands.proofs.Words.{words_none, words_more}
use Rattle.strands.proofs.Delivered.{count_turn, all_counted}
use Rattle.strands.proofs.events.event_count.Goals as goal

pub loop-j-init : goal.loop-j-init
loop-j-init c =
    let a = c.args in
    (omega arith, omega arith, sym (ap (total (event_count a.closes)) (words_none (level_strands a.levels.now) a.level) ∙ total_none (event_count a.closes)))

pub loop-j-preserved : goal.loop-j-preserved
loop-j-preserved c =
    let a = c.args in
    let l = c.loop-j in
    let h : l.j < a.n = ltb-true l.j a.n (and_left (ltb l.j a.n) _ c.loop-j-test.true) in (
      omega arith,
      omega arith,
      count_turn a.closes (get_or (level_strands a.levels.now) (16 * a.level + l.j) 0) l.k _ _ _ l.invariant.2
          (c.records_of-k.ensures.0 ∙ ap (event_count a.closes) c.strand_at.ensures)
          (words_more (level_strands a.levels.now) a.level l.j),
    )

pub returns : goal.returns
returns c =
    let a = c.args in
    let l = c.loop-j in
    let e = all_counted l.j a.n l.k c.loop-j-test.false l.invariant.0 c.requires.1 l.invariant.1 in
    (l.invariant.2 ∙ ap (λ (j : ℕ). total (event_count a.closes) (words_at (level_strands a.levels.now) a.level j)) e, omega arith)
