-- `asking::asked_step` meets its contract: what comes next of a coherent session, counted.
use mathlib.Core.Path.{refl, sym, ap}
use mathlib.Core.Bool.{true}
use native.Mathlib.Omega.{arith}
use Rattle.strands.specs.Levels.{level_names, level_spaces, level_strands}
use Rattle.sessions.specs.Sessions.{session_at}
use Rattle.sessions.specs.Stepping.{Step}
use Rattle.advances.proofs.RunTurns.{from_ready}
use Rattle.starts.proofs.Classed.{from_loop}
use Rattle.starts.proofs.StartTurns.{few_bound}
use Rattle.asking.proofs.asked_step.Goals as goal

pub put_keys-requires : goal.put_keys-requires
put_keys-requires c =
    let a = c.args in
    let p = c.requires in
    let z = session_at a.head a.levels.now a.bindings.now in
    let l = c.load-index in
    let r = from_ready a.table.now a.scene.now a.header z p.1 p.0 p.2 true (sym p.3) l.result refl l.ensures in
    omega (arith, few_bound a.table.now a.header l.result a.scene.now a.head (level_names a.levels.now) a.bindings.now (level_spaces a.levels.now) (level_strands a.levels.now) r)

pub put_classes-requires : goal.put_classes-requires
put_classes-requires c =
    let a = c.args in
    let p = c.requires in
    let z = session_at a.head a.levels.now a.bindings.now in
    let l = c.load-index in
    let r = from_ready a.table.now a.scene.now a.header z p.1 p.0 p.2 true (sym p.3) l.result refl l.ensures in
    omega (arith, few_bound a.table.now a.header l.result a.scene.now a.head (level_names a.levels.now) a.bindings.now (level_spaces a.levels.now) (level_strands a.levels.now) r)

pub weighed_step-requires : goal.weighed_step-requires
weighed_step-requires c =
    let a = c.args in
    let p = c.requires in
    let z = session_at a.head a.levels.now a.bindings.now in
    let l = c.load-index in
    let r = from_ready a.table.now a.scene.now a.header z p.1 p.0 p.2 true (sym p.3) l.result refl l.ensures in
    from_loop a.table.now a.header l.result a.scene.now a.head a.levels.now a.bindings.now r (omega arith) _ _ c.put_keys.ensures c.put_classes.ensures

pub returns : goal.returns
returns c = ap (λ (x : Step). x.answer) c.weighed_step.ensures.0
