-- `levels::level_strands_fit` meets its contract.
use Prim.Native.Nat.{ℕ, ◌+◌, ◌-◌, ◌*◌, ◌≤◌}
use mathlib.Core.Path.{◌≡◌, ap, ◌∙◌}
use native.Mathlib.Omega.{arith}
use lib.ListN.{take, drop}
use Rattle.std.proofs.Common.{rules}
use Rattle.std.proofs.lemmas.Grind.{common_steps}
use Rattle.strands.specs.Levels.{level_strands}
use Rattle.strands.proofs.LevelNumbers.{strand_part}
use Rattle.coherence.proofs.CheckWays.{strands_told}
use Rattle.coherence.proofs.levels.level_strands_fit.Goals as goal

pub returns-then-contains : goal.returns-then-contains
returns-then-contains c =
    let a = c.args in
    let n = c.count_at-n.result in
    let some : 1 ≤ n = grind (arith, common_steps) in
    let few : n ≤ 16 = search rules in
    let m : 24 * a.k + 8 + n - (24 * a.k + 8) ≡ n = omega arith in
    let part = ap (λ (i : ℕ). take i (drop (24 * a.k + 8) a.levels.now)) m ∙ strand_part a.levels.now a.k n (omega arith) (omega arith) few in
    strands_told a.modes a.units (level_strands a.levels.now) a.k n _ c.count_at-n.ensures some few _ part c.strands_fit.result c.strands_fit.ensures
