-- `strands::counts::members_of` meets its contract: the attributes of the section so far are counted.
use mathlib.Core.Path.{◌≡◌, ◌∙◌}
use native.Mathlib.Omega.{arith}
use Rattle.attributes.specs.Attributes.{sorted_in}
use Rattle.strands.proofs.Counting.{section_is, section_not, kept_start, kept_next, kept_past, kept_end}
use Rattle.strands.proofs.counts.members_of.Goals as goal
use Rattle.strands.proofs.counts.members_of.Goals.{then-section_at-section, else-section_at-section}

pub loop-k-init : goal.loop-k-init
loop-k-init c = (omega arith, omega arith, kept_start (sorted_in _ _) _)

pub loop-k-preserved : goal.loop-k-preserved
loop-k-preserved c =
    let l = c.loop-k in
    let t = c.loop-k-test.true in
    elim c.if-section_at-section.branch [
      | then-section_at-section w ↦ (omega (arith, t), omega (arith, w.m-is, l.invariant.1), w.m-is ∙ kept_next (sorted_in _ _) _ l.k l.m l.invariant.2 (section_is _ _ l.k _ _ c.section_at.ensures w.if-section_at-section.true))
      | else-section_at-section w ↦ (omega (arith, t), omega (arith, w.m-is, l.invariant.1), w.m-is ∙ kept_past (sorted_in _ _) _ l.k l.m l.invariant.2 (section_not _ _ l.k _ _ c.section_at.ensures w.if-section_at-section.false))
    ]

pub returns : goal.returns
returns c =
    let l = c.loop-k in
    let e : l.k ≡ c.args.n = omega (arith, l.invariant.0, c.loop-k-test.false) in
    (kept_end (sorted_in _ _) _ l.k l.m l.invariant.2 c.args.n e, omega (arith, l.invariant.1))
