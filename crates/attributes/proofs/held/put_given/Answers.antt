-- `attributes::held::put_given` meets its contract: eight numbers copied over a part.
use mathlib.Core.Path.{ap, ◌∙◌}
use Prim.Native.Nat.{◌*◌}
use native.Mathlib.Omega.{arith}
use lib.ListN.{length-drop}
use lib.Seq.{length-take-le}
use Rattle.laws.specs.Over.{overwrite}
use Rattle.laws.proofs.Over.{part_over}
use Rattle.attributes.proofs.Giving.{given_are}
use Rattle.attributes.proofs.held.put_given.Goals as goal

pub returns : goal.returns
returns c =
    let a = c.args in
    let s = c.copy_from_slice.ensures in
    part_over a.attributes.now (8 * a.k) _ c.copy_from_slice.new.self (s.len ∙ length-take-le _ _ (omega (arith, length-drop (8 * a.k) a.attributes.now)))
    ∙ ap (overwrite a.attributes.now (8 * a.k)) (
    s.after
    ∙ given_are a.a a.space a.code _ _ _ _ _ _ _ _ _ _ (omega arith) c.narrow.ensures c.saturating_sub.ensures c.narrow-2.ensures c.narrow-3.ensures c.saturating_sub-2.ensures c.narrow-4.ensures c.from.ensures c.narrow-5.ensures c.narrow-6.ensures c.narrow-7.ensures
    )
