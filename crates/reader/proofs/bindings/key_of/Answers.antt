-- `reader::bindings::key_of` meets its contract: the key so far and the bytes that are left make the key of them all.
use mathlib.Core.Path.{refl}
use native.Mathlib.Omega.{arith}
use Rattle.reader.proofs.PrefixKeys.{key_turn, key_small, key_fits, key_whole, key_long}
use Rattle.reader.proofs.bindings.key_of.Goals as goal

pub returns-then-n-gt7 : goal.returns-then-n-gt7
returns-then-n-gt7 c = key_long _ c.if-n-gt7.true

pub loop-b-init : goal.loop-b-init
loop-b-init c = (omega arith, c.if-n-gt7.false, omega arith, refl)

pub overflow_mul-key : goal.overflow_mul-key
overflow_mul-key c = let l = c.loop-b in omega (arith, key_fits l.key l.b-index l.invariant.2 (omega arith))

pub overflow_add-key : goal.overflow_add-key
overflow_add-key c = let l = c.loop-b in omega (arith, key_fits l.key l.b-index l.invariant.2 (omega arith), c.from.ensures, c.type_inv.prefix l.b-index)

pub loop-b-preserved : goal.loop-b-preserved
loop-b-preserved c =
    let l = c.loop-b in
    (omega arith, l.invariant.1, key_small l.key l.b-index _ l.invariant.2 (omega (arith, c.from.ensures, c.type_inv.prefix l.b-index)), key_turn _ l.key l.b-index l.invariant.3 _ c.loop-b-test.true c.from.ensures)

pub overflow_mul-result : goal.overflow_mul-result
overflow_mul-result c = let l = c.loop-b in omega (arith, key_fits l.key l.b-index l.invariant.2 (omega arith))

pub overflow_add-result : goal.overflow_add-result
overflow_add-result c = let l = c.loop-b in omega (arith, key_fits l.key l.b-index l.invariant.2 (omega arith))

pub returns : goal.returns
returns c = let l = c.loop-b in key_whole _ l.key l.b-index l.invariant.3 (omega (arith, c.loop-b-test.false)) l.invariant.1
