-- `namespaces::clashes::clash_behind` meets its contract: at each turn the answer is that of the attributes that are left.
use mathlib.Core.Path.{refl, sym, ◌∙◌}
use native.Mathlib.Omega.{arith}
use Rattle.reader.proofs.Any.{or_hit, or_miss}
use Rattle.reader.proofs.Indexed.{min_at_most}
use Rattle.reader.proofs.Clashing.{behind_turn, behind_past, behind_out}
use Rattle.namespaces.proofs.clashes.clash_behind.Goals as goal
use Rattle.namespaces.proofs.clashes.clash_behind.Goals.{else-keys-j-via-then-keys-j+else-clash_at, else-keys-j-via-else-keys-j}

pub loop-j-init : goal.loop-j-init
loop-j-init c = (omega (arith, c.min-j-end.ensures), omega arith, refl)

pub returns-then-clash_at : goal.returns-then-clash_at
returns-then-clash_at c =
    let l = c in
    let a = l.args in
    or_hit _ _ _
    (behind_turn _ a.spaces.now a.count _ (l.min-j-end.ensures ∙ min_at_most 16 a.count) _ _ _ _ _ l.loop-j.j l.loop-j.invariant.2 c.loop-j-test.true _ c.clash_at.ensures)
    c.if-clash_at.true

pub loop-j-preserved : goal.loop-j-preserved
loop-j-preserved c =
    let a = c.args in
    let l = c.loop-j in
    let most = c.min-j-end.ensures ∙ min_at_most 16 a.count in
    let test = c.loop-j-test.true in
    elim c.else-keys-j.branch [
      | else-keys-j-via-then-keys-j+else-clash_at w ↦
          (l.invariant.0, omega arith, or_miss _ _ _ (behind_turn _ a.spaces.now a.count _ most _ _ _ _ _ l.j l.invariant.2 test _ w.clash_at.ensures) w.if-clash_at.false)
      | else-keys-j-via-else-keys-j w ↦ (
        l.invariant.0,
        omega arith,
        behind_past _ a.spaces.now a.count _ most _ _ _ _ _ l.j l.invariant.2 test
            (c.requires.1 a.i l.j (omega (arith, most)) (omega (arith, most)) (λ e. w.if-keys-j.false (sym e))),
      )
    ]

pub returns : goal.returns
returns c =
    let l = c in
    let a = l.args in
    behind_out a.attrs.now a.spaces.now a.count _ (l.min-j-end.ensures ∙ min_at_most 16 a.count) a.s.now a.own.now a.outer.now a.i _ l.loop-j.j l.loop-j.invariant.2 c.loop-j-test.false
