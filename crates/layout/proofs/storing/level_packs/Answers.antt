-- `layout::storing::level_packs` meets its contract: the first four numbers, then the other twelve.
use mathlib.Core.Path.{sym, ap, ◌∙◌}
use Prim.Native.Nat.{ℕ, ◌+◌, ◌*◌}
use native.Mathlib.Omega.{arith}
use lib.Dec.{eqb}
use Rattle.layout.specs.Layout.{word4, packs}
use Rattle.layout.proofs.Packs.{zero_packs}
use Rattle.layout.proofs.Tested.{first_fail, then_last, asked_less}
use Rattle.layout.proofs.storing.level_packs.Goals as goal

pub returns-else-words_pack : goal.returns-else-words_pack
returns-else-words_pack c =
    let a = c.args in
    c.if-words_pack.false
    ∙ first_fail (λ (j : ℕ). packs (word4 a.b.now (a.at + 4 * j))) (λ (j : ℕ). packs (word4 a.b.now (a.at + 16 + 4 * j))) 4 12
    (λ j h. ap (λ (at : ℕ). packs (word4 a.b.now at)) (omega arith)) (sym c.words_pack.ensures ∙ c.if-words_pack.false)

pub words_zero-requires : goal.words_zero-requires
words_zero-requires c = λ j h. omega arith

pub returns-then-words_zero : goal.returns-then-words_zero
returns-then-words_zero c =
    let a = c.args in
    let last : ℕ → ℕ = λ (j : ℕ). word4 a.b.now (a.at + 16 + 4 * j) in
    c.if-words_zero.true
    ∙ sym (asked_less (λ (j : ℕ). eqb (last j) 0) (λ (j : ℕ). packs (last j)) 12 (λ j. zero_packs (last j)) (sym c.words_zero.ensures ∙ c.if-words_zero.true))
    ∙ then_last (λ (j : ℕ). packs (word4 a.b.now (a.at + 4 * j))) (λ (j : ℕ). packs (last j)) 4 12
    (λ j h. ap (λ (at : ℕ). packs (word4 a.b.now at)) (omega arith)) (sym c.words_pack.ensures ∙ c.if-words_pack.true)

pub returns-else-words_zero : goal.returns-else-words_zero
returns-else-words_zero c =
    let a = c.args in
    c.words_pack-else-words_zero.ensures
    ∙ then_last (λ (j : ℕ). packs (word4 a.b.now (a.at + 4 * j))) (λ (j : ℕ). packs (word4 a.b.now (a.at + 16 + 4 * j))) 4 12
    (λ j h. ap (λ (at : ℕ). packs (word4 a.b.now at)) (omega arith)) (sym c.words_pack.ensures ∙ c.if-words_pack.true)
