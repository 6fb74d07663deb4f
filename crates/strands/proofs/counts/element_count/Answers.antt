-- `strands::counts::element_count` meets its contract: where there are no sections all n are kept.
use mathlib.Core.Path.{refl}
use Rattle.strands.specs.Packed.{strand_in}
use Rattle.attributes.specs.Attributes.{attributes_in, sections_in, all_sorted}
use Rattle.strands.proofs.Counting.{kept_all, element_with}
use Rattle.strands.proofs.counts.element_count.Goals as goal

pub returns-then-m-eq0 : goal.returns-then-m-eq0
returns-then-m-eq0 c =
    let a = c.args in
    let r = c.count_with in
    let l = all_sorted (attributes_in a.attributes.now) (sections_in a.attributes.now) a.n in (
      (λ schema. element_with a.index.now l a.w schema (strand_in a.w).mode a.n _ refl
          (kept_all (attributes_in a.attributes.now) (sections_in a.attributes.now) a.n (c.requires.1 c.if-m-eq0.true) a.index.now (strand_in a.w).mode) r.ensures.0),
      r.ensures.1,
    )

pub returns-else-m-eq0 : goal.returns-else-m-eq0
returns-else-m-eq0 c =
    let a = c.args in
    let r = c.count_with-else-m-eq0 in
    let l = all_sorted (attributes_in a.attributes.now) (sections_in a.attributes.now) a.n in
    ((λ schema. element_with a.index.now l a.w schema c.mode_of.result c.kept_count.result _ c.mode_of.ensures.0 c.kept_count.ensures.0 r.ensures.0), r.ensures.1)
