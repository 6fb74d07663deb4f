-- `namespaces::clashes::keys_of` meets its contract: the keys that are stored are the last bytes of names that have one.
use Prim.Native.Nat.{ℕ}
use mathlib.Core.Path.{refl}
use native.Mathlib.Omega.{arith}
use borrow.Author.Count.{below_none}
use lib.ListN.{length-set}
use Rattle.laws.proofs.Filled.{filled_more}
use Rattle.lexer.specs.Attrs.{attr_in}
use Rattle.reader.specs.Keys.{EndsWith}
use Rattle.reader.proofs.Keys.{keys_last, keys_none}
use Rattle.namespaces.proofs.clashes.keys_of.Goals as goal

pub loop-i-init : goal.loop-i-init
loop-i-init c = (refl, below_none _)

pub returns-in-None : goal.returns-in-None
returns-in-None c = keys_none c.args.s.now c.args.attrs.now c.args.most c.requires

pub loop-i-preserved : goal.loop-i-preserved
loop-i-preserved c =
    let l = c.loop-i in
    let a = c.args in
    let more =
    filled_more (λ (k byte : ℕ). EndsWith a.s.now (attr_in a.attrs.now k).name byte) l.keys l.i c.in-Some.last 0 (omega arith) l.invariant.1
    (rw (← c.attr_in.ensures) c.in-Some.ensures) in
    (simp length-set l.invariant.0, more)

pub returns : goal.returns
returns c = keys_last c.args.s.now c.args.attrs.now c.args.most c.loop-i.keys (λ k h. c.loop-i.invariant.1 k (omega (arith, c.loop-i-test.false)))
