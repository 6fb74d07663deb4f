-- `namespaces::declarations::put_binding` meets its contract: four stores are one part overwritten.
use native.Mathlib.Omega.{arith}
use lib.ListN.{length-set}
use Rattle.laws.proofs.Over.{four_set}
use Rattle.namespaces.proofs.declarations.put_binding.Goals as goal

pub bounds-own-at-2 : goal.bounds-own-at-2
bounds-own-at-2 c = simp length-set (omega arith)

pub bounds-own-at-3 : goal.bounds-own-at-3
bounds-own-at-3 c = simp length-set (omega arith)

pub bounds-own-at-4 : goal.bounds-own-at-4
bounds-own-at-4 c = simp length-set (omega arith)

pub returns : goal.returns
returns c =
    let w = c.narrow in
    let x = c.narrow-2 in
    let y = c.narrow-3 in
    let z = c.narrow-4 in
    rw (← w.ensures, ← x.ensures, ← y.ensures, ← z.ensures) (four_set _ _ w.result x.result y.result z.result c.requires)
