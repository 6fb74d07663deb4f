-- `layout::storing::put8` meets its contract.
use Rattle.std.proofs.Common.{◌+◌, ◌-◌, length, ap, ◌∙◌, arith}
use Rattle.laws.specs.Over.{overwrite}
use Rattle.laws.proofs.Over.{part_over}
use Rattle.layout.proofs.Eight.{eight_bytes}
use Rattle.layout.proofs.storing.put8.Goals as goal

pub returns : goal.returns
returns c =
    let a = c.args in
    let t = c.to_le_bytes.ensures in
    let e = c.copy_from_slice.ensures.after ∙ t in
    part_over a.b.now a.at (a.at + 8 - a.at) _ (omega (arith, ap length e)) ∙ ap (overwrite a.b.now a.at) (e ∙ eight_bytes a.n)
