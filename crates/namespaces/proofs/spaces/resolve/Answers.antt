-- `namespaces::spaces::resolve` meets its contract: the numbers that are held and those of what is left are the tag's.
use Prim.Native.Nat.{◌≤◌}
use mathlib.Core.Path.{refl, sym, ◌∙◌, subst}
use native.Mathlib.Omega.{arith}
use lib.ListN.{length}
use Rattle.reader.proofs.Indexed.{min_at_most}
use Rattle.reader.proofs.Numbers.{InRange, attribute_in_range, code_small}
use Rattle.reader.proofs.Resolving.{begin, turn, unbound, ended}
use Rattle.namespaces.proofs.spaces.resolve.Goals as goal

pub loop-i-init : goal.loop-i-init
loop-i-init c =
    let count = c.args.count in
    (omega arith, omega (arith, c.min-i-end.ensures), begin _ _ _ _ _ _ _ _ _ count refl (c.min-i-end.ensures ∙ min_at_most 16 count))

pub returns-then-is_unbound : goal.returns-then-is_unbound
returns-then-is_unbound c =
    let p = c in
    let l = p.loop-i in
    unbound _ _ _ _ _ _ p.min-i-end.result _ _ l.spaces l.i l.invariant.2 c.loop-i-test.true _ _ c.attr_in-a.ensures c.find_attribute-f.ensures
    (sym c.is_unbound.ensures ∙ c.if-is_unbound.true)

pub code_of-requires : goal.code_of-requires
code_of-requires c =
    let f = c.find_attribute-f in
    code_small f.result (subst InRange (sym f.ensures) (attribute_in_range _ _ _ _ _ _))

pub loop-i-preserved : goal.loop-i-preserved
loop-i-preserved c =
    let p = c in
    let l = p.loop-i in
    let room : p.min-i-end.result ≤ length p.args.spaces.now = omega (arith, l.invariant.0, l.invariant.1) in
    let t =
    turn _ _ _ _ _ _ p.min-i-end.result _ _ l.spaces l.i l.invariant.2 c.loop-i-test.true _ _ c.attr_in-a.ensures c.find_attribute-f.ensures room
    (sym c.is_unbound.ensures ∙ c.if-is_unbound.false) _ c.code_of.ensures in
    (l.invariant.0, l.invariant.1, t)

pub returns : goal.returns
returns c =
    let l = c.loop-i in
    ended _ _ _ _ _ _ c.min-i-end.result _ _ l.spaces l.i l.invariant.2 c.loop-i-test.false
