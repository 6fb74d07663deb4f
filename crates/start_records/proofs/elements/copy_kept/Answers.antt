-- `copy_kept` copies the rows of the attributes that are kept: those from the k-th on are left.
use mathlib.Core.Path.{ap, ◌∙◌}
use native.Mathlib.Omega.{arith}
use lib.ListN.{length}
use borrow.Author.Rules.{rules}
use Rattle.attributes.specs.Attributes.{attributes_in, sections_in}
use Rattle.start_records.proofs.KeptCopies.{pair_few, copying_start, copying_past, copying_next, copying_end}
use Rattle.start_records.proofs.elements.copy_kept.Goals as goal
use Rattle.start_records.proofs.elements.copy_kept.Goals.{then-is_kept, else-is_kept}

pub loop-k-init : goal.loop-k-init
loop-k-init c =
    let a = c.args in
    (search rules, search rules, search rules, copying_start a.index.now a.mode (attributes_in a.attributes.now) (sections_in a.attributes.now) a.n a.rows.now a.unit a.out.now a.from)

pub put_pair-requires : goal.put_pair-requires
put_pair-requires c =
    let a = c.args in
    let l = c.loop-k in
    let f = pair_few a.rows.now a.unit a.n l.k c.requires.2 c.loop-k-test.true in
    (search rules, search rules, f.0, f.1)

pub loop-k-preserved : goal.loop-k-preserved
loop-k-preserved c =
    let a = c.args in
    let l = c.loop-k in
    let t = c.loop-k-test.true in
    let i = c.is_kept in
    elim c.if-is_kept.branch [
      | then-is_kept w ↦ (
        search rules,
        omega (arith, ap length w.out-is, w.put_pair.auto.out, l.invariant.1),
        omega (arith, w.used-is, l.invariant.2),
        copying_next a.index.now a.mode (attributes_in a.attributes.now) (sections_in a.attributes.now) a.n a.rows.now a.unit a.out.now a.from l.out l.used l.k l.invariant.3 t i.result i.ensures w.if-is_kept.true _ _ (omega arith) (w.out-is ∙ w.put_pair.ensures) w.used-is,
      )
      | else-is_kept w ↦ (
        search rules,
        ap length w.out-is ∙ l.invariant.1,
        omega (arith, w.used-is, l.invariant.2),
        copying_past a.index.now a.mode (attributes_in a.attributes.now) (sections_in a.attributes.now) a.n a.rows.now a.unit a.out.now a.from l.out l.used l.k l.invariant.3 t i.result i.ensures w.if-is_kept.false _ _ w.out-is w.used-is,
      )
    ]

pub returns : goal.returns
returns c =
    let a = c.args in
    let l = c.loop-k in
    (omega (arith, l.invariant.2, l.invariant.0), copying_end a.index.now a.mode (attributes_in a.attributes.now) (sections_in a.attributes.now) a.n a.rows.now a.unit a.out.now a.from l.out l.used l.k l.invariant.3 c.loop-k-test.false)
