-- `write_event` lays the rows of the strands: those of the first j after j turns.
use mathlib.Core.Path.{sym, ap, ◌∙◌}
use mathlib.Core.List.{[], ◌∷◌, ◌++◌, map}
use Prim.Native.Nat.{ℕ}
use native.Mathlib.Omega.{arith}
use borrow.Author.Rules.{rules}
use Rattle.laws.specs.Gather.{gather}
use Rattle.records.specs.Rows.{laid, laid_if, laid_rows, body_of}
use Rattle.strands.specs.Packed.{words_at}
use Rattle.strands.specs.Levels.{level_strands}
use Rattle.strands.specs.Writing.{row_of, event_records}
use Rattle.strands.proofs.Words.{words_none, words_more}
use Rattle.strands.proofs.Delivered.{event_none, event_turn}
use Rattle.strands.proofs.events.write_event.Goals as goal

pub loop-j-init : goal.loop-j-init
loop-j-init c = let a = c.args in (search rules, search rules, event_none (body_of a.row) a.closes (laid a.out.now 0) _ (words_none (level_strands a.levels.now) a.level))

pub loop-j-preserved : goal.loop-j-preserved
loop-j-preserved c =
    let d = c.delivers-due in
    let t = c.target_of-unit in
    let h = c.is_here in
    let w = c.strand_at-w in
    let p = c.put_row_if-next in
    let q = c.put_row_if-used in
    let l = c.loop-j in
    let a = c.args in (
      omega (arith, c.loop-j-test.true),
      search rules,
      event_turn (body_of a.row) a.closes w.result d.result h.result t.result d.ensures t.ensures h.ensures
          (laid a.out.now 0) (laid l.out l.used) _ _
          _ _
          l.invariant.2
          (p.ensures ∙ ap (laid_if d.result (laid l.out l.used)) c.with_unit.ensures)
          (q.ensures ∙ ap (laid_if _ _) c.plain_row.ensures)
          (words_more (level_strands a.levels.now) a.level l.j ∙ ap (λ (x : ℕ). words_at (level_strands a.levels.now) a.level l.j ++ (x ∷ [])) (sym w.ensures)),
    )

pub returns : goal.returns
returns c =
    let a = c.args in
    let l = c.loop-j in
    l.invariant.2 ∙ ap (λ (j : ℕ). laid_rows (laid a.out.now 0) (map row_of (gather (event_records (body_of a.row) a.closes) (words_at (level_strands a.levels.now) a.level j)))) (omega arith)
