-- `openings::levels::push_space` meets its contract: four stores are one part overwritten.
use Prim.Native.Nat.{◌+◌, ◌*◌}
use native.Mathlib.Omega.{arith}
use Rattle.openings.proofs.Stores.{space_set}
use Rattle.openings.proofs.levels.push_space.Goals as goal

pub returns : goal.returns
returns c =
    let x = c.narrow in
    let y = c.narrow-2 in
    let z = c.narrow-3 in
    let a = c.args in
    rw c.from.ensures (space_set a.levels.now (24 * a.depth + 3) a.placing.class x.result y.result z.result a.placing.at a.placing.len a.count (omega arith) x.ensures y.ensures z.ensures (omega arith))
