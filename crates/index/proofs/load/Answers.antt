-- `index::load` meets its contract: at each turn the index is that of the rules from the i-th on put into it.
use Prim.Native.Nat.{◌+◌}
use mathlib.Core.Path.{◌≡◌, ◌∙◌}
use mathlib.Core.Bool.{cond}
use lib.ListN.{get_or}
use lib.Dec.{eqb}
use Rattle.table.proofs.Scan.{up_to_min, load_start, load_on, load_done, first_here, first_before}
use Rattle.index.proofs.load.Goals as goal
use Rattle.index.proofs.load.Goals.{then-index-b-eq0, else-index-b-eq0}

pub loop-i-init : goal.loop-i-init
loop-i-init c = load_start c.args.table.now c.args.header c.min-i-end.result (c.min-i-end.ensures ∙ up_to_min c.args.header.rules)

pub loop-i-preserved : goal.loop-i-preserved
loop-i-preserved c =
    let l = c.loop-i in
    let b = c.bucket_of-b.result in
    let f : c.if-index-b-eq0.first ≡ cond (eqb (get_or l.index (192 + b) 0) 0) l.i (get_or l.index (128 + b) 0) =
    elim c.if-index-b-eq0.branch [
      | then-index-b-eq0 w ↦ first_here _ _ _ _ w.if-index-b-eq0.true (w.first-is ∙ w.from-first.ensures)
      | else-index-b-eq0 w ↦ first_before _ _ _ _ w.if-index-b-eq0.false w.first-is
    ] in
    rw (c.from.ensures, c.from-in-loop-i.ensures)
    (load_on c.args.table.now c.min-i-end.result l.i l.index _ l.invariant c.loop-i-test.true _ c.word_at-w.ensures _ c.bucket_of-b.ensures.0 _ f)

pub returns : goal.returns
returns c = load_done c.args.table.now c.min-i-end.result c.loop-i.i _ _ c.loop-i.invariant c.loop-i-test.false
