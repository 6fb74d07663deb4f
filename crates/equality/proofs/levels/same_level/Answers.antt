-- `levels::same_level` meets its contract.
use Prim.Native.Nat.{◌≤◌}
use native.Mathlib.Omega.{arith}
use Rattle.equality.specs.Same.{held_level}
use Rattle.equality.proofs.Turns.{level_name, level_class, level_uri_lem, level_bindings, level_count, level_strands_lem, words_part}
use Rattle.equality.proofs.levels.same_level.Goals as goal

pub returns-then-ne : goal.returns-then-ne
returns-then-ne c = search level_name

pub returns-then-space_at : goal.returns-then-space_at
returns-then-space_at c = search level_class

pub returns-then-ne-2 : goal.returns-then-ne-2
unfolding held_level
returns-then-ne-2 c = search level_uri_lem

pub returns-then-owned_at : goal.returns-then-owned_at
unfolding held_level
returns-then-owned_at c = search level_bindings

pub returns-then-n-count_at : goal.returns-then-n-count_at
unfolding held_level
returns-then-n-count_at c = search level_count

pub returns : goal.returns
unfolding held_level
returns c =
    let a = c.args in
    let n = c.count_at-n.result in
    let few : n ≤ 16 = omega (arith, c.count_at-n.ensures, c.requires) in
    let one = words_part a.levels.now a.k n (omega arith) c.requires.0 few in
    let other = words_part a.other.now a.k n (omega arith) c.requires.0 few in
    search (level_strands_lem, one, other)
