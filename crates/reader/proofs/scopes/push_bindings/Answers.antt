-- `scopes::push_bindings` meets its contract, at each of its ends.
use Prim.Native.Nat.{ℕ, ◌*◌}
use mathlib.Core.Path.{◌≡◌, ◌∙◌}
use native.Mathlib.Omega.{arith}
use lib.ListN.{length, take}
use lib.Seq.{length-take-le}
use Rattle.reader.proofs.Pushes.{many, full, laid, put_over}
use Rattle.reader.proofs.scopes.push_bindings.Goals as goal
use Rattle.reader.proofs.scopes.push_bindings.Goals.{then-owned-gt-OWN-via-then-owned-gt-OWN, then-owned-gt-OWN-via-else-owned-gt-OWN+then-owned-bound}

pub returns-then-owned-gt-OWN : goal.returns-then-owned-gt-OWN
returns-then-owned-gt-OWN c =
    elim c.then-owned-gt-OWN.branch [
      | then-owned-gt-OWN-via-then-owned-gt-OWN w ↦ many _ _ _ _ w.if-owned-gt-OWN.true
      | then-owned-gt-OWN-via-else-owned-gt-OWN+then-owned-bound w ↦ full _ _ _ _ w.if-owned-gt-OWN.false (omega (arith, w.if-owned-bound.true, w.if-owned-gt-OWN.false))
    ]

pub returns : goal.returns
returns c =
    let a = c.args in
    let at : ℕ = 4 * a.bound in
    let few : length (take (4 * a.owned) a.own.now) ≡ 4 * a.owned = length-take-le (4 * a.owned) a.own.now (omega arith) in
    rw c.copy_from_slice.ensures.after (put_over a.bindings.now at _ (take (4 * a.owned) a.own.now) (few ∙ omega arith) ∙ laid a.bindings.now a.bound a.own.now a.owned (omega arith) (omega arith))
