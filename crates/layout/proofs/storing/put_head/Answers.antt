-- `layout::storing::put_head` meets its contract.
use Rattle.std.proofs.Common.{length, ap, ◌∙◌}
use Rattle.laws.specs.Over.{overwrite}
use Rattle.laws.proofs.Over.{part_over}
use Rattle.layout.proofs.Stored.{flag_from, head_end}
use Rattle.layout.proofs.storing.put_head.Goals as goal

pub returns : goal.returns
returns c =
    let b = c.args.b.now in
    let h = c.args.head in
    let e = c.copy_from_slice.ensures.after in
    let f = part_over b 0 8 c.copy_from_slice.new.self (ap length e) ∙ ap (overwrite b 0) e in
    head_end b _ _ _ _ _ h.closed h.awaited _ _ h.place h.units h.depth h.bound (c.from-closed.ensures ∙ flag_from h.closed) (c.from-awaited.ensures ∙ flag_from h.awaited) f c.put8.ensures c.put8-2.ensures c.put8-3.ensures c.put8-4.ensures
