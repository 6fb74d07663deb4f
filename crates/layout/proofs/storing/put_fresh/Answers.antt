-- `layout::storing::put_fresh` meets its contract.
use Rattle.std.proofs.Common.{length, take, refl, arith}
use lib.Seq.{length-take-le}
use Rattle.layout.proofs.FreshBytes.{clear_end}
use Rattle.layout.proofs.storing.put_fresh.Goals as goal

pub returns : goal.returns
returns c =
    let b = c.args.b.now in
    clear_end b c.fill.new.self (length (take 7208 b)) 7208 (length-take-le 7208 b (omega arith)) refl (c.fill.ensures.after (λ y h. h))
