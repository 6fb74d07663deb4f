-- `put_open` lays an open where the unit is new.
use Prim.Native.Nat.{ℕ}
use mathlib.Core.Path.{ap, ap₂, ◌∙◌}
use mathlib.Core.Bool.{Bool}
use Rattle.reader.specs.Spans.{span}
use Rattle.model.specs.Records.{plain}
use Rattle.records.specs.declared.Row.{Row}
use Rattle.records.specs.Rows.{laid, laid_if}
use Rattle.strands.specs.Writing.{row_for}
use Rattle.start_records.proofs.UnitRows.{placed}
use Rattle.start_records.proofs.elements.put_open.Goals as goal

pub returns : goal.returns
returns c =
    let a = c.args in
    let w = laid a.out.now a.from in
    c.put_row_if.ensures
    ∙ ap (λ (r : Row). laid_if c.is_here.result w (placed a.tag r.len r)) c.plain_row.ensures
    ∙ ap₂ (λ (b : Bool) (u : ℕ). laid_if b w (row_for u (plain 0 a.schema (span a.tag 0)))) c.is_here.ensures c.target_of.ensures
