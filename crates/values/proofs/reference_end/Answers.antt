-- `values::reference_end` meets its contract: one test for each of the five words, in their order.
use mathlib.Core.Path.{◌≡◌}
use mathlib.Core.List.{List, ◌∷◌}
use Prim.Native.Nat.{ℕ}
use native.Mathlib.Omega.{arith}
use lib.ListN.{length, drop}
use Rattle.lexer.specs.Reads.{Read}
use Rattle.lexer.specs.Values.{common, whole_of, no_reference, reference_end}
use Rattle.lexer.proofs.References.{whole, passed, no_word, Past, found_in}
use Rattle.values.proofs.reference_end.Goals as goal

-- none of the five is passed
past_0 : (s : List ℕ) (at : ℕ) → Past s at 0
unfolding reference_end
past_0 s at x e = e

-- which of the five are passed where a test fails
past : (s word : List ℕ) (words : List (List ℕ)) (at r : ℕ) → r ≡ common (drop at s) word → (r ≡ length word → ⊥)
    → ((x : Read) → x ≡ whole_of s at (word ∷ words) (no_reference s at) → x ≡ reference_end s at)
    → (x : Read) → x ≡ whole_of s at words (no_reference s at) → x ≡ reference_end s at
past s word words at r e k p x q = p x (passed s word words (no_reference s at) at r e k x q)

pub overflow_add-result : goal.overflow_add-result
overflow_add-result c = let a = c.args in omega (arith, found_in a.s.now _ a.at _ c.common_at.ensures (omega arith))

pub overflow_add-result-then-common_at-eq4-2 : goal.overflow_add-result-then-common_at-eq4-2
overflow_add-result-then-common_at-eq4-2 c = let a = c.args in omega (arith, found_in a.s.now _ a.at _ c.common_at-2.ensures (omega arith))

pub overflow_add-result-then-common_at-eq5 : goal.overflow_add-result-then-common_at-eq5
overflow_add-result-then-common_at-eq5 c = let a = c.args in omega (arith, found_in a.s.now _ a.at _ c.common_at-3.ensures (omega arith))

pub overflow_add-result-then-common_at-eq6 : goal.overflow_add-result-then-common_at-eq6
overflow_add-result-then-common_at-eq6 c = let a = c.args in omega (arith, found_in a.s.now _ a.at _ c.common_at-4.ensures (omega arith))

pub overflow_add-result-then-common_at-eq6-2 : goal.overflow_add-result-then-common_at-eq6-2
overflow_add-result-then-common_at-eq6-2 c = let a = c.args in omega (arith, found_in a.s.now _ a.at _ c.common_at-5.ensures (omega arith))

pub returns-then-common_at-eq4 : goal.returns-then-common_at-eq4
returns-then-common_at-eq4 c = past_0 c.args.s.now c.args.at _ (whole _ _ _ _ _ _ c.common_at.ensures c.if-common_at-eq4.true)

pub returns-then-common_at-eq4-2 : goal.returns-then-common_at-eq4-2
returns-then-common_at-eq4-2 c =
    past _ _ _ _ _ c.common_at.ensures c.if-common_at-eq4.false
    (past_0 c.args.s.now c.args.at)
    _ (whole _ _ _ _ _ _ c.common_at-2.ensures c.if-common_at-eq4-2.true)

pub returns-then-common_at-eq5 : goal.returns-then-common_at-eq5
returns-then-common_at-eq5 c =
    past _ _ _ _ _ c.common_at-2.ensures c.if-common_at-eq4-2.false
    (past _ _ _ _ _ c.common_at.ensures c.if-common_at-eq4.false
    (past_0 c.args.s.now c.args.at))
    _ (whole _ _ _ _ _ _ c.common_at-3.ensures c.if-common_at-eq5.true)

pub returns-then-common_at-eq6 : goal.returns-then-common_at-eq6
returns-then-common_at-eq6 c =
    past _ _ _ _ _ c.common_at-3.ensures c.if-common_at-eq5.false
    (past _ _ _ _ _ c.common_at-2.ensures c.if-common_at-eq4-2.false
    (past _ _ _ _ _ c.common_at.ensures c.if-common_at-eq4.false
    (past_0 c.args.s.now c.args.at)))
    _ (whole _ _ _ _ _ _ c.common_at-4.ensures c.if-common_at-eq6.true)

pub returns-then-common_at-eq6-2 : goal.returns-then-common_at-eq6-2
returns-then-common_at-eq6-2 c =
    past _ _ _ _ _ c.common_at-4.ensures c.if-common_at-eq6.false
    (past _ _ _ _ _ c.common_at-3.ensures c.if-common_at-eq5.false
    (past _ _ _ _ _ c.common_at-2.ensures c.if-common_at-eq4-2.false
    (past _ _ _ _ _ c.common_at.ensures c.if-common_at-eq4.false
    (past_0 c.args.s.now c.args.at))))
    _ (whole _ _ _ _ _ _ c.common_at-5.ensures c.if-common_at-eq6-2.true)

pub returns : goal.returns
returns c =
    past _ _ _ _ _ c.common_at-5.ensures c.if-common_at-eq6-2.false
    (past _ _ _ _ _ c.common_at-4.ensures c.if-common_at-eq6.false
    (past _ _ _ _ _ c.common_at-3.ensures c.if-common_at-eq5.false
    (past _ _ _ _ _ c.common_at-2.ensures c.if-common_at-eq4-2.false
    (past _ _ _ _ _ c.common_at.ensures c.if-common_at-eq4.false
    (past_0 c.args.s.now c.args.at)))))
    _ (no_word _ _ _ _ c.no_reference.ensures)
