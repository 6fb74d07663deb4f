-- `strands::counts::kept_count` meets its contract: those kept so far are counted.
use mathlib.Core.Path.{◌≡◌, sym, ◌∙◌}
use native.Mathlib.Omega.{arith}
use Rattle.attributes.specs.Attributes.{sorted_in}
use Rattle.strands.proofs.Counting.{kept_start, kept_next, kept_past, kept_end}
use Rattle.strands.proofs.counts.kept_count.Goals as goal
use Rattle.strands.proofs.counts.kept_count.Goals.{then-is_kept, else-is_kept}

pub loop-k-init : goal.loop-k-init
loop-k-init c = (omega arith, omega arith, kept_start (sorted_in _ _) _)

pub loop-k-preserved : goal.loop-k-preserved
loop-k-preserved c =
    let l = c.loop-k in
    let t = c.loop-k-test.true in
    let e = c.is_kept.ensures in
    elim c.if-is_kept.branch [
      | then-is_kept w ↦ (omega (arith, t), omega (arith, w.m-is, l.invariant.1), w.m-is ∙ kept_next (sorted_in _ _) _ l.k l.m l.invariant.2 (sym e ∙ w.if-is_kept.true))
      | else-is_kept w ↦ (omega (arith, t), omega (arith, w.m-is, l.invariant.1), w.m-is ∙ kept_past (sorted_in _ _) _ l.k l.m l.invariant.2 (sym e ∙ w.if-is_kept.false))
    ]

pub returns : goal.returns
returns c =
    let l = c.loop-k in
    let e : l.k ≡ c.args.n = omega (arith, l.invariant.0, c.loop-k-test.false) in
    (kept_end (sorted_in _ _) _ l.k l.m l.invariant.2 c.args.n e, omega (arith, l.invariant.1))
