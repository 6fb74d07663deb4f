-- `copy_elements` lays the rows of the element along each strand: those from the k-th on are left.
use Prim.Native.Nat.{◌+◌, ◌*◌}
use native.Mathlib.Omega.{arith}
use lib.ListN.{length}
use Rattle.records.specs.Rows.{laid}
use Rattle.records.proofs.Words.{words_few}
use Rattle.attributes.specs.Attributes.{attributes_in, sections_in, all_sorted}
use Rattle.strands.specs.Writing.{begun_body, element_records, whole_bodies}
use Rattle.start_records.proofs.ElementRows.{elements_holds, elements_on, elements_done}
use Rattle.start_records.proofs.Copies.{bodies_many, rows_kept, room_here, room_next}
use borrow.Author.Rules.{rules}
use Rattle.start_records.proofs.elements.copy_elements.Goals as goal

pub loop-k-init : goal.loop-k-init
loop-k-init c =
    let a = c.args in
    let records = element_records a.index.now a.begun.tag (begun_body a.begun) (all_sorted (attributes_in a.attributes.now) (sections_in a.attributes.now) a.n) in
    (search rules, search rules, omega arith, elements_holds records a.words.now a.schemas.now a.count (laid a.out.now a.from))

pub copy_element-used-requires : goal.copy_element-used-requires
copy_element-used-requires c =
    let l = c.loop-k in
    let a = c.args in
    let p = c.requires in
    let u = c.lay_units.ensures in
    let t = c.loop-k-test.true in
    let bodies = whole_bodies (begun_body a.begun) (all_sorted (attributes_in a.attributes.now) (sections_in a.attributes.now) a.n) in
    let m = bodies_many (begun_body a.begun) (attributes_in a.attributes.now) (sections_in a.attributes.now) a.n in
    let h = rows_kept c.lay_rows.new.rows c.lay_units.new.rows bodies (c.lay_rows.ensures (sections_in a.attributes.now)) (omega arith) u.0 in (
      p.0,
      omega arith,
      p.2 l.k t,
      room_here (32 * (a.n + 1)) l.k a.from l.used l.invariant.2 a.count (length l.out) t (omega (arith, p.3, l.invariant.1)),
      u.1 l.k t,
      λ j q. words_few c.lay_units.new.rows bodies j h (omega arith),
      p.4,
    )

pub loop-k-preserved : goal.loop-k-preserved
loop-k-preserved c =
    let l = c.loop-k in
    let a = c.args in
    let w = c.copy_element-used in
    let sorted = all_sorted (attributes_in a.attributes.now) (sections_in a.attributes.now) a.n in
    let m = bodies_many (begun_body a.begun) (attributes_in a.attributes.now) (sections_in a.attributes.now) a.n in
    let h = rows_kept c.lay_rows.new.rows c.lay_units.new.rows (whole_bodies (begun_body a.begun) sorted) (c.lay_rows.ensures (sections_in a.attributes.now)) (omega arith) c.lay_units.ensures.0 in (
      search rules,
      search rules,
      room_next (32 * (a.n + 1)) l.k a.from l.used l.invariant.2 _ w.ensures.0,
      elements_on (element_records a.index.now a.begun.tag (begun_body a.begun) sorted) a.words.now a.schemas.now a.count _ (laid l.out l.used) _ l.k l.invariant.3 c.loop-k-test.true (w.ensures.1 (begun_body a.begun) h),
    )

pub returns : goal.returns
returns c =
    let l = c.loop-k in
    let a = c.args in
    let records = element_records a.index.now a.begun.tag (begun_body a.begun) (all_sorted (attributes_in a.attributes.now) (sections_in a.attributes.now) a.n) in
    elements_done records a.words.now a.schemas.now a.count _ (laid l.out l.used) l.k l.invariant.3 c.loop-k-test.false
