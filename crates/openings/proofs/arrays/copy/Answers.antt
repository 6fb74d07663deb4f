-- `arrays::copy` meets its contract.
use Rattle.std.proofs.Common.{◌≡◌, ℕ, ◌+◌, ◌-◌, length, take, drop, length-drop, ap, ◌∙◌, arith}
use lib.Seq.{length-take-le}
use Rattle.laws.specs.Over.{overwrite}
use Rattle.laws.proofs.Over.{part_over}
use Rattle.openings.proofs.arrays.copy.Goals as goal

pub returns : goal.returns
returns c =
    let a = c.args in
    let k : a.first + a.n - a.first ≡ a.n = omega arith in
    let e = c.copy_from_slice.ensures.after ∙ ap (λ (i : ℕ). take i (drop a.first a.from.now)) k in
    let n : length c.copy_from_slice.new.self ≡ a.n = ap length e ∙ length-take-le a.n (drop a.first a.from.now) (omega (arith, length-drop a.first a.from.now)) in
    part_over a.to.now a.at (a.at + a.n - a.at) _ (omega arith) ∙ ap (overwrite a.to.now a.at) e
