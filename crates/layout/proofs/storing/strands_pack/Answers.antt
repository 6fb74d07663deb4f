-- `layout::storing::strands_pack` meets its contract: the answer is that of the levels from the k-th on.
use mathlib.Core.Path.{refl, sym, ap, ◌∙◌}
use Prim.Native.Nat.{ℕ, ◌+◌, ◌*◌}
use native.Mathlib.Omega.{arith}
use Rattle.laws.proofs.Lists.{all_done}
use Rattle.layout.specs.Layout.{word4, packs, strand_at}
use Rattle.layout.proofs.Tested.{asked, some_fail, some_pass}
use Rattle.layout.proofs.storing.strands_pack.Goals as goal

pub loop-k-init : goal.loop-k-init
loop-k-init c = (omega arith, refl)

pub returns-then-not-level_packs : goal.returns-then-not-level_packs
returns-then-not-level_packs c =
    let b = c.args.b.now in
    let l = c.loop-k in
    some_fail (λ (i : ℕ). packs (word4 b (strand_at i))) (λ (j : ℕ). packs (word4 b (1064 + 96 * l.k + 32 + 4 * j))) (16 * l.k) 16 1024 (asked (λ (i : ℕ). packs (word4 b (strand_at i))) 0 1024) l.invariant.1 (omega arith)
    (λ j h. ap (λ (at : ℕ). packs (word4 b at)) (omega arith)) (sym c.level_packs.ensures ∙ c.if-not-level_packs.true)

pub loop-k-preserved : goal.loop-k-preserved
loop-k-preserved c =
    let b = c.args.b.now in
    let l = c.loop-k in (
      omega arith,
      some_pass (λ (i : ℕ). packs (word4 b (strand_at i))) (λ (j : ℕ). packs (word4 b (1064 + 96 * l.k + 32 + 4 * j))) (16 * l.k) 16 1024 (asked (λ (i : ℕ). packs (word4 b (strand_at i))) 0 1024) l.invariant.1 (omega arith)
          (λ j h. ap (λ (at : ℕ). packs (word4 b at)) (omega arith)) (16 * (l.k + 1)) (omega arith) (sym c.level_packs.ensures ∙ c.if-not-level_packs.false),
    )

pub returns : goal.returns
returns c =
    let b = c.args.b.now in
    let l = c.loop-k in
    all_done (λ (i : ℕ). i) (16 * l.k) 1024 (asked (λ (i : ℕ). packs (word4 b (strand_at i))) 0 1024) (λ (i : ℕ). packs (word4 b (strand_at i))) l.invariant.1 (omega arith)
