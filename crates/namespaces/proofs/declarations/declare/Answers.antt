-- `namespaces::declarations::declare` meets its contract: what is held and what is left are the tag's declarations.
use mathlib.Core.Path.{refl, ◌∙◌}
use native.Mathlib.Omega.{arith}
use Rattle.std.proofs.lemmas.Result.{err_from_is_err_and}
use Rattle.reader.proofs.Indexed.{min_at_most}
use Rattle.reader.proofs.Declaring.{begin, turn, refused, ended}
use Rattle.namespaces.proofs.declarations.declare.Goals as goal

pub loop-i-init : goal.loop-i-init
loop-i-init c =
    let count = c.args.count in
    (omega arith, omega (arith, c.min-i-end.ensures), begin _ _ _ _ _ count refl (c.min-i-end.ensures ∙ min_at_most 16 count))

pub declare_one-requires : goal.declare_one-requires
declare_one-requires c =
    let l = c.loop-i in
    let d = l.invariant.2 in
    omega (arith, c.loop-i-test.true, l.invariant.0, l.invariant.1, d.few, d.long)

pub returns-in_err-n : goal.returns-in_err-n
returns-in_err-n c =
    let l = c.loop-i in
    let r = c.declare_one in
    let e = err_from_is_err_and c.from_residual.result c.from_residual.ensures.1 in
    rw (e.1, e.2) (refused _ _ c.min-i-end.result _ _ l.own l.n l.i l.invariant.2 c.loop-i-test.true _ c.attr_in.ensures r.result r.new.own r.ensures _ c.in_err-n.was)

pub loop-i-preserved : goal.loop-i-preserved
loop-i-preserved c =
    let p = c in
    let l = p.loop-i in
    let r = c.declare_one in
    let t =
    turn _ _ p.min-i-end.result _ _ l.own l.n l.i l.invariant.2 c.loop-i-test.true _ c.attr_in.ensures r.result r.new.own r.ensures _
    c.in_ok-n.was r.auto.own in
    (l.invariant.0, l.invariant.1, t)

pub returns : goal.returns
returns c =
    let l = c.loop-i in
    ended _ _ c.min-i-end.result _ _ l.own l.n l.i l.invariant.2 c.loop-i-test.false
