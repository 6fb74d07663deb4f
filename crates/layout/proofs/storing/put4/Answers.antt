-- `storing::put4` meets its contract.
use Rattle.std.proofs.Common.{◌+◌, ◌-◌, length, ap, ◌∙◌, arith}
use Rattle.laws.specs.Over.{overwrite}
use Rattle.laws.proofs.Over.{part_over}
use Rattle.layout.proofs.storing.put4.Goals as goal

pub returns : goal.returns
returns c =
    let a = c.args in
    let e = c.copy_from_slice.ensures.after in
    let t = c.to_le_bytes.ensures in
    part_over a.b.now a.at (a.at + 4 - a.at) _ (omega (arith, ap length e, ap length t)) ∙ ap (overwrite a.b.now a.at) (e ∙ t)
