-- `openings::levels::push_name` meets its contract: three stores are one part overwritten.
use Prim.Native.Nat.{◌*◌}
use native.Mathlib.Omega.{arith}
use borrow.Author.Rules.{rules}
use Rattle.openings.proofs.Stores.{level_set}
use Rattle.openings.proofs.levels.push_name.Goals as goal

pub returns : goal.returns
returns c =
    let x = c.narrow in
    let y = c.narrow-2 in
    let z = c.narrow-3 in
    let a = c.args in
    (level_set a.levels.now (24 * a.depth) x.result y.result z.result a.name.at a.name.len a.owned (omega arith) x.ensures y.ensures z.ensures (omega arith), search rules)
