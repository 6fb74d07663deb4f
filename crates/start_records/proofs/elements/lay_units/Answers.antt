-- `lay_units` lays what each unit adds: of the first k strands after k turns.
use native.Mathlib.Omega.{arith}
use Rattle.start_records.proofs.Copies.{units_start, units_turn}
use borrow.Author.Rules.{rules}
use Rattle.start_records.proofs.elements.lay_units.Goals as goal

pub loop-k-init : goal.loop-k-init
loop-k-init c = (search rules, search rules, units_start c.args.words.now c.args.rows.now)

pub loop-k-preserved : goal.loop-k-preserved
loop-k-preserved c =
    let a = c.args in
    let l = c.loop-k in
    (search rules, search rules, units_turn a.words.now a.rows.now l.rows l.k _ _ l.invariant.2 (omega arith) c.target_of.ensures c.unit_word.ensures)

pub returns : goal.returns
returns c = let l = c.loop-k in (l.invariant.2.before, λ k h. l.invariant.2.units k (omega arith))
