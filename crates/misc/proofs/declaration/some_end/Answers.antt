-- `misc::declaration::some_end` meets its contract: at each turn the answer is the machine's from `i` on, in the state 0 at the first byte and 1 behind it.
use Prim.Native.Nat.{◌+◌}
use mathlib.Core.Path.{refl}
use native.Mathlib.Omega.{arith}
use native.Mathlib.Nat.{le_refl}
use borrow.Author.Tests.{eq-eqb, ne_eqb}
use borrow.Author.Rules.{rules}
use Rattle.laws.specs.Reading.{machine}
use Rattle.lexer.specs.Declaration.{some_end}
use Rattle.misc.proofs.MiscTurns.{later_flag}
use Rattle.misc.proofs.declaration.some_end.Goals as goal

pub loop-i-init : goal.loop-i-init
unfolding some_end
loop-i-init c = (le_refl _, rw (eq-eqb c.args.at c.args.at refl))

pub returns-then-i-at : goal.returns-then-i-at
returns-then-i-at c = search (machine, later_flag)

pub returns-then-not-is_fit : goal.returns-then-not-is_fit
returns-then-not-is_fit c = search (machine, later_flag)

pub loop-i-preserved : goal.loop-i-preserved
loop-i-preserved c =
    let a = c.args in
    let l = c.loop-i in
    (search rules, rw (ne_eqb (l.i + 1) a.at (λ e. omega arith)) (search (machine, later_flag)))

pub returns : goal.returns
returns c = search machine
