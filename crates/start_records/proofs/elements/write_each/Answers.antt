-- `write_each` lays the rows of the element along each strand: those from the k-th on are left.
use mathlib.Core.Path.{refl}
use native.Mathlib.Omega.{arith}
use Rattle.records.specs.Rows.{laid}
use Rattle.attributes.specs.Attributes.{attributes_in, sections_in, all_sorted}
use Rattle.strands.specs.Writing.{begun_body, element_records}
use Rattle.start_records.proofs.ElementRows.{elements_holds, elements_on, elements_done}
use Rattle.start_records.proofs.elements.write_each.Goals as goal

pub loop-k-init : goal.loop-k-init
loop-k-init c =
    let a = c.args in
    let records = element_records a.index.now a.begun.tag (begun_body a.begun) (all_sorted (attributes_in a.attributes.now) (sections_in a.attributes.now) a.n) in
    (refl, elements_holds records a.words.now a.schemas.now a.count (laid a.out.now a.from))

pub write_element-used-requires : goal.write_element-used-requires
write_element-used-requires c =
    let p = c.requires in
    (p.0, p.2 c.loop-k.k c.loop-k-test.true)

pub loop-k-preserved : goal.loop-k-preserved
loop-k-preserved c =
    let a = c.args in
    let l = c.loop-k in
    let records = element_records a.index.now a.begun.tag (begun_body a.begun) (all_sorted (attributes_in a.attributes.now) (sections_in a.attributes.now) a.n) in
    let w = c.write_element-used in
    (omega (arith, l.invariant.0, w.auto.out), elements_on records a.words.now a.schemas.now a.count _ (laid l.out l.used) _ l.k l.invariant.1 c.loop-k-test.true w.ensures)

pub returns : goal.returns
returns c =
    let a = c.args in
    let l = c.loop-k in
    let records = element_records a.index.now a.begun.tag (begun_body a.begun) (all_sorted (attributes_in a.attributes.now) (sections_in a.attributes.now) a.n) in
    elements_done records a.words.now a.schemas.now a.count _ (laid l.out l.used) l.k l.invariant.1 c.loop-k-test.false
