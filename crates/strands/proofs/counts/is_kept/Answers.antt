-- `strands::counts::is_kept` meets its contract.
use mathlib.Core.Path.{◌∙◌}
use borrow.Author.Tests.{eq-eqb}
use Rattle.strands.proofs.Counting.{section_is, section_not, keeps_own, keeps_other}
use Rattle.strands.proofs.counts.is_kept.Goals as goal

pub returns-then-section_at-eq0 : goal.returns-then-section_at-eq0
returns-then-section_at-eq0 c = eq-eqb _ 0 c.if-section_at-eq0.true ∙ keeps_own _ _ _ _ _ (section_is _ _ _ _ 0 c.section_at.ensures c.if-section_at-eq0.true)

pub returns-else-section_at-eq0 : goal.returns-else-section_at-eq0
returns-else-section_at-eq0 c = keeps_other _ _ _ _ _ _ _ (section_not _ _ _ _ 0 c.section_at.ensures c.if-section_at-eq0.false) (c.class_at.ensures _) c.keeps_class.ensures
