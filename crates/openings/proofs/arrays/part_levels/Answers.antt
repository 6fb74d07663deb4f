-- `arrays::part_levels` meets its contract: the numbers of the first k levels are laid down.
use Rattle.std.proofs.Common.{ℕ, ◌+◌, ◌*◌, refl, subst, arith}
use Rattle.openings.proofs.LevelArrays.{Parting, part_fits, part_first, part_turn, part_last}
use Rattle.openings.proofs.arrays.part_levels.Goals as goal

pub loop-k-init : goal.loop-k-init
loop-k-init c =
    let a = c.args in
    subst (λ (n : ℕ). Parting a.levels.now a.numbers.now a.wide a.from a.numbers.now n 0) (omega arith) (part_first a.levels.now a.numbers.now a.wide a.from (omega arith) c.requires.0 c.requires.1)

pub overflow_mul-wide : goal.overflow_mul-wide
overflow_mul-wide c = omega (arith, part_fits c.args.wide (c.args.wide * c.loop-k.k) c.loop-k.k refl c.loop-k-test.true)

pub copy-requires : goal.copy-requires
copy-requires c = (omega (arith, c.loop-k.invariant.same_length, part_fits c.args.wide (c.args.wide * c.loop-k.k) c.loop-k.k refl c.loop-k-test.true), omega arith)

pub loop-k-preserved : goal.loop-k-preserved
loop-k-preserved c =
    let a = c.args in
    let l = c.loop-k in
    subst (λ (n : ℕ). Parting a.levels.now a.numbers.now a.wide a.from c.copy.new.to n (l.k + 1)) (omega arith)
    (part_turn a.levels.now a.numbers.now a.wide a.from (omega arith) c.requires.0 c.requires.1 l.numbers _ (a.wide * l.k) l.k l.invariant c.loop-k-test.true c.copy.ensures)

pub returns : goal.returns
returns c =
    let a = c.args in
    let l = c.loop-k in
    part_last a.levels.now a.numbers.now a.wide a.from (omega arith) c.requires.0 c.requires.1 l.numbers (a.wide * l.k) l.k l.invariant c.loop-k-test.false
