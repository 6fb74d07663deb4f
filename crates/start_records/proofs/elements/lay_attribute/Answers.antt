-- `lay_attribute` lays the words of two rows.
use Prim.Native.Nat.{◌+◌, ◌*◌}
use mathlib.Core.Path.{sym, ap, ◌∙◌}
use native.Mathlib.Omega.{arith}
use lib.ListN.{length-set}
use Rattle.laws.specs.Over.{overwrite}
use Rattle.laws.specs.Gather.{gather}
use Rattle.records.specs.Rows.{body_words}
use Rattle.attributes.specs.Attributes.{Sorted}
use Rattle.attributes.proofs.HeldParts.{same_sorted}
use Rattle.strands.specs.Writing.{sorted_bodies}
use Rattle.start_records.proofs.Copies.{attribute_laid}
use Rattle.start_records.proofs.elements.lay_attribute.Goals as goal

pub bounds-rows-to-2 : goal.bounds-rows-to-2
bounds-rows-to-2 c = simp length-set (omega arith)

pub bounds-rows-to-3 : goal.bounds-rows-to-3
bounds-rows-to-3 c = simp length-set (omega arith)

pub bounds-rows-to-4 : goal.bounds-rows-to-4
bounds-rows-to-4 c = simp length-set (omega arith)

pub shape_of-rows : goal.shape_of-rows
shape_of-rows c = simp length-set

pub returns : goal.returns
returns c sections =
    let a = c.args in
    let same = same_sorted a.attributes.now sections a.k (omega arith) in
    attribute_laid a.attributes.now sections a.k a.rows.now _ _ _ _ _ (omega arith) (c.class_at.ensures sections ∙ ap (λ (x : Sorted). x.class) (sym same)) c.first_word.ensures c.last_word.ensures c.first_word-2.ensures c.last_word-2.ensures
    ∙ ap (λ (x : Sorted). overwrite a.rows.now (4 * a.k + 2) (gather body_words (sorted_bodies x))) same
