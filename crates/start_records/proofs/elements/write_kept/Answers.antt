-- `write_kept` lays the rows of the attributes that are kept: those from the k-th on are left.
use borrow.Author.Rules.{rules}
use Rattle.records.specs.Rows.{laid}
use Rattle.attributes.specs.Attributes.{attributes_in, sections_in, sorted_in}
use Rattle.strands.specs.Writing.{keeps}
use Rattle.start_records.proofs.UnitRows.{kept_holds, kept_on, kept_done}
use Rattle.start_records.proofs.elements.write_kept.Goals as goal

pub loop-k-init : goal.loop-k-init
loop-k-init c =
    let a = c.args in
    (search rules, kept_holds a.unit (sorted_in (attributes_in a.attributes.now) (sections_in a.attributes.now)) (keeps a.index.now a.mode) a.n (laid a.out.now a.from))

pub loop-k-preserved : goal.loop-k-preserved
loop-k-preserved c =
    let a = c.args in
    let l = c.loop-k in
    (search rules, kept_on a.unit (sorted_in (attributes_in a.attributes.now) (sections_in a.attributes.now)) (keeps a.index.now a.mode) a.n _ (laid l.out l.used) _ l.k c.is_kept-due.result l.invariant.1 c.loop-k-test.true c.is_kept-due.ensures (c.put_attribute_if-used.ensures (sections_in a.attributes.now)))

pub returns : goal.returns
returns c =
    let a = c.args in
    let l = c.loop-k in
    kept_done a.unit (sorted_in (attributes_in a.attributes.now) (sections_in a.attributes.now)) (keeps a.index.now a.mode) a.n _ (laid l.out l.used) l.k l.invariant.1 c.loop-k-test.false
