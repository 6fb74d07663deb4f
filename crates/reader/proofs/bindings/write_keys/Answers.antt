-- `reader::bindings::write_keys` meets its contract: the keys of the first bindings are laid down.
use Prim.Native.Nat.{ℕ, ◌+◌}
use mathlib.Core.Path.{◌≡◌, refl, ap, ◌∙◌}
use native.Mathlib.Omega.{arith}
use lib.ListN.{length-set}
use Rattle.laws.specs.Over.{overwrite}
use Rattle.reader.specs.Known.{keys_in}
use Rattle.reader.proofs.Known.{keys_none, keys_turn, key_read}
use Rattle.reader.proofs.bindings.write_keys.Goals as goal

pub loop-k-init : goal.loop-k-init
loop-k-init c = (refl, omega arith, keys_none _ _ _ _)

pub loop-k-preserved : goal.loop-k-preserved
loop-k-preserved c =
    let l = c.loop-k in
    let from = c.args.from in (
      length-set l.known (from + l.k) c.key_of.result ∙ l.invariant.0,
      omega arith,
      keys_turn _ _ _ _ from l.k _ l.invariant.2 (omega (arith, c.loop-k-test.true, c.requires)) (key_read _ _ l.k _ _ _ c.binding_in.ensures c.part_of.ensures.bytes c.key_of.ensures),
    )

pub returns : goal.returns
returns c =
    let l = c.loop-k in
    let e : l.k ≡ c.args.n = omega (arith, l.invariant.1, c.loop-k-test.false) in
    l.invariant.2 ∙ ap (λ (k : ℕ). overwrite c.args.known.now c.args.from (keys_in c.args.s.now c.args.bindings.now k)) e
