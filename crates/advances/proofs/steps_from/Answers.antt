-- `steps::steps_from` meets its contract: 20, or the steps of a coherent session.
use mathlib.Core.Path.{refl, ap}
use native.Mathlib.Omega.{arith}
use Rattle.strands.specs.Levels.{level_names, level_spaces, level_strands}
use Rattle.sessions.specs.Sessions.{session_at}
use Rattle.advances.proofs.RunTurns.{from_refused, from_ready}
use Rattle.starts.proofs.Classed.{from_loop}
use Rattle.starts.proofs.StartTurns.{few_bound}
use mathlib.Core.Bool.{not}
use Rattle.advances.proofs.steps_from.Goals as goal

pub returns-then-not-coherent : goal.returns-then-not-coherent
returns-then-not-coherent c =
    let a = c.args in
    let p = c.requires in
    let z = session_at a.from a.levels.now a.bindings.now in record {
      out_after = from_refused a.table.now a.scene.now a.header z p.1 p.0 p.2 c.coherent.result c.coherent.ensures a.most a.out.now p.3 (ap not c.if-not-coherent.true);
      levels_unchanged = refl;
    }

pub put_keys-requires : goal.put_keys-requires
put_keys-requires c =
    let a = c.args in
    let p = c.requires in
    let z = session_at a.from a.levels.now a.bindings.now in
    let r = from_ready a.table.now a.scene.now a.header z p.1 p.0 p.2 c.coherent.result c.coherent.ensures c.load-index.result (ap not c.if-not-coherent.false) c.load-index.ensures in
    omega (arith, few_bound a.table.now a.header c.load-index.result a.scene.now a.from (level_names a.levels.now) a.bindings.now (level_spaces a.levels.now) (level_strands a.levels.now) r)

pub put_classes-requires : goal.put_classes-requires
put_classes-requires c =
    let a = c.args in
    let p = c.requires in
    let z = session_at a.from a.levels.now a.bindings.now in
    let r = from_ready a.table.now a.scene.now a.header z p.1 p.0 p.2 c.coherent.result c.coherent.ensures c.load-index.result (ap not c.if-not-coherent.false) c.load-index.ensures in
    omega (arith, few_bound a.table.now a.header c.load-index.result a.scene.now a.from (level_names a.levels.now) a.bindings.now (level_spaces a.levels.now) (level_strands a.levels.now) r)

pub judged_steps-requires : goal.judged_steps-requires
judged_steps-requires c =
    let a = c.args in
    let p = c.requires in
    let z = session_at a.from a.levels.now a.bindings.now in
    let r = from_ready a.table.now a.scene.now a.header z p.1 p.0 p.2 c.coherent.result c.coherent.ensures c.load-index.result (ap not c.if-not-coherent.false) c.load-index.ensures in
    from_loop a.table.now a.header c.load-index.result a.scene.now a.from a.levels.now a.bindings.now r (omega arith) _ _ c.put_keys.ensures c.put_classes.ensures
