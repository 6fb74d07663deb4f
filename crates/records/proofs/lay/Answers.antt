-- `lay` lays the bytes over the output.
use mathlib.Core.Path.{ap, ◌∙◌}
use native.Mathlib.Omega.{arith}
use lib.ListN.{length-drop}
use lib.Seq.{length-take-le}
use Rattle.laws.specs.Over.{overwrite}
use Rattle.laws.proofs.Over.{part_over}
use Rattle.records.proofs.lay.Goals as goal

pub returns : goal.returns
returns g c =
    let s = c.copy_from_slice.ensures in
    part_over c.args.out.now c.args.at _ c.copy_from_slice.new.self (s.len ∙ length-take-le _ _ (omega (arith, length-drop c.args.at c.args.out.now))) ∙ ap (overwrite c.args.out.now c.args.at) s.after
