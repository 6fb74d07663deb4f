-- `write_members` lays the rows of a section's attributes: those from the k-th on are left.
use Prim.Native.Nat.{ℕ}
use mathlib.Core.Path.{ap, ◌∙◌}
use mathlib.Core.List.{[], map}
use mathlib.Core.Bool.{cond}
use borrow.Author.Rules.{rules}
use lib.Dec.{eqb}
use Rattle.records.specs.Rows.{laid, laid_rows}
use Rattle.attributes.specs.Attributes.{attributes_in, sections_in, sorted_in, Sorted}
use Rattle.strands.specs.Writing.{row_for, sorted_bodies}
use Rattle.start_records.proofs.UnitRows.{kept_holds, kept_done, member_on}
use Rattle.start_records.proofs.units.write_members.Goals as goal

pub loop-k-init : goal.loop-k-init
loop-k-init c = let a = c.args in (search rules, kept_holds a.unit (sorted_in (attributes_in a.attributes.now) (sections_in a.attributes.now)) (λ (s : Sorted). eqb s.section a.j) a.n (laid a.out.now a.from))

pub loop-k-preserved : goal.loop-k-preserved
loop-k-preserved c =
    let a = c.args in
    let l = c.loop-k in
    let sorted = sorted_in (attributes_in a.attributes.now) (sections_in a.attributes.now) l.k in (
      search rules,
      member_on (attributes_in a.attributes.now) (sections_in a.attributes.now) a.n a.j a.unit _ (laid l.out l.used) _ l.k l.invariant.1 c.loop-k-test.true
          (c.put_attribute_if-used.ensures (sections_in a.attributes.now) ∙ ap (λ (z : ℕ). laid_rows (laid l.out l.used) (map (row_for a.unit) (cond (eqb z a.j) (sorted_bodies sorted) []))) c.section_at.ensures),
    )

pub returns : goal.returns
returns c =
    let a = c.args in
    let l = c.loop-k in
    kept_done a.unit (sorted_in (attributes_in a.attributes.now) (sections_in a.attributes.now)) (λ (s : Sorted). eqb s.section a.j) a.n _ (laid l.out l.used) l.k l.invariant.1 c.loop-k-test.false
