-- `write_elements` lays the rows of the element along each strand, by copies where they fit.
use Prim.Native.Nat.{◌+◌, ◌*◌}
use mathlib.Core.Path.{sym, ◌∙◌}
use native.Mathlib.Omega.{arith}
use borrow.Author.Tests.{leb-true}
use lib.ListN.{length}
use Rattle.start_records.proofs.Copies.{bytes_few}
use Rattle.start_records.proofs.elements.write_elements.Goals as goal

pub overflow_mul-count : goal.overflow_mul-count
overflow_mul-count c = let p = c.requires in let a = c.args in omega (arith, bytes_few a.count a.n p.1 p.0)

pub copy_elements-requires : goal.copy_elements-requires
copy_elements-requires c =
    let p = c.requires in
    let a = c.args in
    (p.0, p.1, p.2, leb-true (a.from + a.count * (32 * (a.n + 1))) (length a.out.now) (sym c.has_room.ensures ∙ c.if-has_room.true), p.3)
