-- `put_attribute_if` lays an attribute's two rows where they are due.
use mathlib.Core.Path.{sym, ap, ◌∙◌}
use mathlib.Core.List.{[], map}
use mathlib.Core.Bool.{cond}
use Prim.Native.Nat.{ℕ, ◌+◌, ◌*◌}
use native.Mathlib.Omega.{arith}
use lib.ListN.{get_or}
use Rattle.records.specs.declared.Row.{Row}
use Rattle.records.specs.Rows.{laid, laid_if, laid_rows}
use Rattle.attributes.specs.Attributes.{Sorted, sorted_in, given_in}
use Rattle.attributes.proofs.HeldParts.{same_sorted}
use Rattle.strands.specs.Writing.{row_for, sorted_bodies}
use Rattle.start_records.proofs.UnitRows.{placed, name_row, value_row, two_rows, attribute_rows}
use Rattle.start_records.proofs.units.put_attribute_if.Goals as goal

pub returns : goal.returns
unfolding sorted_in given_in
returns c sections =
    let a = c.args in
    let w = laid a.out.now a.used in
    let at = a.attributes.now in
    c.put_row_if.ensures
    ∙ ap (λ (r : Row). laid_if a.due (laid c.put_row_if-next.new.out c.put_row_if-next.result) (placed (get_or at (8 * a.k + 2) 0) (get_or at (8 * a.k + 3) 0) r)) c.plain_row.ensures
    ∙ two_rows w _ a.due (name_row a.attributes.now a.k a.unit) (value_row a.attributes.now a.k a.unit)
    (c.put_row_if-next.ensures
    ∙ ap
    (λ (x : ℕ).
    laid_if a.due w
    (record { unit = a.unit; kind = 2; class = x; at = get_or at (8 * a.k) 0; len = get_or at (8 * a.k + 1) 0; uri_at = get_or at (8 * a.k + 5) 0; uri_len = get_or at (8 * a.k + 6) 0 }))
    (c.class_at.ensures [] ∙ ap (λ (x : Sorted). x.class) (sym (same_sorted at [] a.k (omega arith)))))
    ∙ ap (laid_rows w) (attribute_rows a.attributes.now a.k a.unit sections a.due)
    ∙ ap (λ (x : Sorted). laid_rows w (map (row_for a.unit) (cond a.due (sorted_bodies x) []))) (same_sorted a.attributes.now sections a.k (omega arith))
