-- `strands::counts::section_class` meets its contract: the first attribute of the section from k on is the first of all.
use mathlib.Core.Path.{◌∙◌}
use native.Mathlib.Omega.{arith}
use Rattle.attributes.specs.Attributes.{sorted_in}
use Rattle.strands.proofs.Counting.{section_is, section_not, head_start, head_here, head_past, head_end}
use Rattle.strands.proofs.counts.section_class.Goals as goal

pub loop-k-init : goal.loop-k-init
loop-k-init c = (omega arith, head_start (sorted_in _ _) _ _)

pub returns-then-section_at-section : goal.returns-then-section_at-section
returns-then-section_at-section c =
    let l = c.loop-k in
    c.class_at.ensures _ ∙ head_here (sorted_in _ _) _ _ _ l.k l.invariant.1 c.loop-k-test.true (section_is _ _ l.k _ _ c.section_at.ensures c.if-section_at-section.true)

pub loop-k-preserved : goal.loop-k-preserved
loop-k-preserved c =
    let l = c.loop-k in
    let t = c.loop-k-test.true in
    (omega (arith, t), head_past (sorted_in _ _) _ _ _ l.k l.invariant.1 t (section_not _ _ l.k _ _ c.section_at.ensures c.if-section_at-section.false))

pub returns : goal.returns
returns c =
    let l = c.loop-k in
    head_end (sorted_in _ _) _ _ _ l.k l.invariant.1 c.loop-k-test.false
