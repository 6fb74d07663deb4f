-- `attributes::held::hold` meets its contract: what is held and what is left are the attributes that are no declarations.
use mathlib.Core.Path.{refl, ap, ◌∙◌}
use mathlib.Core.Bool.{not}
use Prim.Native.Nat.{◌<◌}
use native.Mathlib.Omega.{arith}
use lib.ListN.{get_or}
use Rattle.reader.specs.Stored.{Coded, is_declaration}
use Rattle.attributes.proofs.Known.{code_within, coded_at_lem, begin_holds, turn_over, turn_put, ended_holds, most_is}
use Rattle.attributes.proofs.held.hold.Goals as goal
use Rattle.attributes.proofs.held.hold.Goals.{then-not-is_declaration, else-not-is_declaration}

pub loop-i-init : goal.loop-i-init
loop-i-init c =
    let a = c.args in
    begin_holds a.s.now a.own.now a.outer.now a.bound a.known.now a.attrs.now a.count a.codes.now _ _ (most_is a.count _ c.min-i-end.ensures) (omega arith)

pub space_of-space-requires : goal.space_of-space-requires
space_of-space-requires c =
    let q = c in
    let a = q.args in
    let l = c.loop-i in
    let m = c.min-i-end in
    let em = most_is c.args.count m.result m.ensures in
    let h = c.loop-i-test.true in
    (q.requires.0, code_within (get_or a.codes.now l.i 0) (coded_at_lem (λ (x : Coded). x.code < 82) a.attrs.now a.codes.now a.count m.result l.i em h q.requires.1) _ c.found_in.ensures)

pub loop-i-preserved : goal.loop-i-preserved
loop-i-preserved c =
    let a = c.args in
    let l = c.loop-i in
    let m = c.min-i-end in
    let em = most_is c.args.count m.result m.ensures in
    let h = c.loop-i-test.true in
    let r = c.attr_in-a in
    let e = c.is_declaration.ensures ∙ ap is_declaration c.kind_of.ensures in
    elim c.if-not-is_declaration.branch [
      | then-not-is_declaration w ↦
          turn_put a.s.now a.own.now a.outer.now a.bound a.known.now a.attrs.now a.count a.codes.now m.result _ em l.attributes l.n l.i l.invariant h r.result r.ensures c.is_declaration.result e (ap not w.if-not-is_declaration.true)
          (get_or a.codes.now l.i 0) refl w.found_in.result w.found_in.ensures w.space_of-space.result w.space_of-space.ensures c.if-not-is_declaration.attributes (w.attributes-is ∙ w.put_given.ensures) c.if-not-is_declaration.n w.n-is
      | else-not-is_declaration w ↦ turn_over a.s.now a.own.now a.outer.now a.bound a.known.now a.attrs.now a.count a.codes.now m.result _ em l.attributes l.n l.i l.invariant h r.result r.ensures c.is_declaration.result e (ap not w.if-not-is_declaration.false) c.if-not-is_declaration.attributes w.attributes-is c.if-not-is_declaration.n w.n-is
    ]

pub returns : goal.returns
returns c =
    let a = c.args in
    let l = c.loop-i in
    let m = c.min-i-end in
    let em = most_is c.args.count m.result m.ensures in
    ended_holds a.s.now a.own.now a.outer.now a.bound a.known.now a.attrs.now a.count a.codes.now m.result _ em l.attributes l.n l.i l.invariant c.loop-i-test.false
