-- `lay_rows` lays the words of the start, then those of the attributes: of the first k after k turns.
use Prim.Native.Nat.{ℕ}
use mathlib.Core.Path.{◌≡◌, ap, ◌∙◌}
use native.Mathlib.Omega.{arith}
use lib.ListN.{length-set}
use Rattle.laws.specs.Over.{overwrite}
use Rattle.attributes.specs.Attributes.{attributes_in}
use Rattle.strands.specs.Writing.{begun_body}
use Rattle.start_records.proofs.Copies.{laid_words, start_laid, rows_turn, rows_held}
use borrow.Author.Rules.{rules}
use Rattle.start_records.proofs.elements.lay_rows.Goals as goal

pub loop-k-init : goal.loop-k-init
loop-k-init c = (search rules, simp length-set (search rules), λ begun rows sections e. e)

pub loop-k-preserved : goal.loop-k-preserved
loop-k-preserved c =
    let a = c.args in
    let l = c.loop-k in
    (search rules, search rules, λ begun rows sections e. rows_turn begun (attributes_in a.attributes.now) sections rows l.rows _ l.k (l.invariant.2 begun rows sections e) (c.lay_attribute.ensures sections))

pub returns : goal.returns
returns c sections =
    let a = c.args in
    let l = c.loop-k in
    let b = begun_body a.begun in
    let e : l.k ≡ a.n = omega arith in
    rows_held b (attributes_in a.attributes.now) sections a.n a.rows.now _ (omega arith, omega arith)
    (l.invariant.2 b a.rows.now sections (start_laid b (attributes_in a.attributes.now) sections a.rows.now _ _ (omega arith) c.first_word.ensures c.last_word.ensures)
    ∙ ap (λ (k : ℕ). overwrite a.rows.now 0 (laid_words b (attributes_in a.attributes.now) sections k)) e)
