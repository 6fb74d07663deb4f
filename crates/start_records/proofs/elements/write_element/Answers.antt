-- `write_element` lays the rows of the element along a strand, if a unit gets them.
use Rattle.records.specs.Rows.{laid, laid_if}
use Rattle.attributes.specs.Attributes.{attributes_in, sections_in, all_sorted}
use Rattle.strands.specs.Writing.{row_for, begun_body}
use Rattle.start_records.proofs.ElementRows.{element_none, element_laid}
use mathlib.Core.Bool.{not}
use mathlib.Core.Path.{refl, sym, ap, ◌∙◌}
use Prim.Native.Nat.{ℕ}
use Rattle.reader.specs.Spans.{span}
use Rattle.model.specs.Records.{plain}
use Rattle.strands.specs.Packed.{strand_in}
use Rattle.start_records.proofs.elements.write_element.Goals as goal

pub returns-then-not-delivers : goal.returns-then-not-delivers
returns-then-not-delivers c =
    let a = c.args in
    let d = c.delivers in
    let l = all_sorted (attributes_in a.attributes.now) (sections_in a.attributes.now) a.n in
    element_none a.index.now a.begun.tag (begun_body a.begun) l a.w a.schema d.result d.ensures (laid a.out.now a.from) (ap not c.if-not-delivers.true)

pub returns : goal.returns
returns c =
    let a = c.args in
    let d = c.delivers in
    let l = all_sorted (attributes_in a.attributes.now) (sections_in a.attributes.now) a.n in
    element_laid a.index.now a.begun.tag (begun_body a.begun) l a.w a.schema d.result d.ensures (ap not c.if-not-delivers.false)
    c.target_of-unit.result c.mode_of.result (strand_in a.w).here c.target_of-unit.ensures c.mode_of.ensures.0 refl
    (laid a.out.now a.from) _ _ _
    (c.put_open-a.ensures ∙ ap (λ (u : ℕ). laid_if (strand_in a.w).here (laid a.out.now a.from) (row_for u (plain 0 a.schema (span a.begun.tag 0)))) (sym c.target_of-unit.ensures))
    c.put_row-b.ensures c.write_kept.ensures
