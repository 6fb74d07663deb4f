-- `write_unit` lays the rows of a unit, from open to close.
use mathlib.Core.Path.{ap, ◌∙◌}
use native.Mathlib.Omega.{arith}
use Rattle.records.specs.declared.Row.{Row}
use Rattle.records.specs.Rows.{laid, laid_row}
use Rattle.attributes.specs.Attributes.{attributes_in, sections_in, all_sorted}
use Rattle.strands.specs.Writing.{members}
use Rattle.start_records.proofs.UnitRows.{placed, unit_laid}
use Rattle.start_records.proofs.units.write_unit.Goals as goal

pub shape_of-out : goal.shape_of-out
shape_of-out c = omega (arith, c.put_row.auto.out, c.put_row-d.auto.out, c.write_members-c.auto.out, c.put_row-b.auto.out, c.put_row-a.auto.out)

pub returns : goal.returns
returns c =
    let a = c.args in
    unit_laid a.unit a.schema a.tag (members (all_sorted (attributes_in a.attributes.now) (sections_in a.attributes.now) a.n) a.j)
    (laid a.out.now a.from) _ _ _ _ _ _ _ _
    (c.put_row-a.ensures ∙ ap (λ (r : Row). laid_row (laid a.out.now a.from) (placed a.tag 1 r)) c.plain_row.ensures)
    c.plain_row-2.ensures
    c.put_row-b.ensures
    c.write_members-c.ensures
    c.plain_row-3.ensures
    c.put_row-d.ensures
    c.plain_row-4.ensures
    c.put_row.ensures
