-- `advance_in` meets its contract: no step to take, a table that judge refuses, a scene that is too long, and the rest.
use mathlib.Core.Path.{refl}
use native.Mathlib.Omega.{arith}
use Rattle.sessions.specs.Sessions.{session_at}
use Rattle.advances.proofs.RunTurns.{none_advanced, advance_none, advance_refused, advance_too_long, then_accepted}
use Rattle.advances.proofs.advance_in.Goals as goal

pub returns-then-most-eq0 : goal.returns-then-most-eq0
returns-then-most-eq0 c =
    let a = c.args in
    let n = c.none_taken in
    let z = session_at a.head a.levels.now a.bindings.now in record {
      out_after = none_advanced n.result a.head a.levels.now a.bindings.now a.out.now _ n.ensures.1
          (advance_none a.table.now a.scene.now z a.out.now a.most _ (omega (arith, c.if-most-eq0.true)) n.ensures.0);
      levels_unchanged = refl;
    }

pub returns-then-judged-ne0 : goal.returns-then-judged-ne0
returns-then-judged-ne0 c =
    let a = c.args in
    let j = c.judge-judged in
    let n = c.none_taken-then-judged-ne0 in
    let z = session_at a.head a.levels.now a.bindings.now in record {
      out_after = none_advanced n.result a.head a.levels.now a.bindings.now a.out.now _ n.ensures.1
          (advance_refused a.table.now a.scene.now j.result j.ensures a.most (omega (arith, c.if-most-eq0.false)) z a.out.now _ c.if-judged-ne0.true n.ensures.0);
      levels_unchanged = refl;
    }

pub returns-then-scene-gt-LONGEST : goal.returns-then-scene-gt-LONGEST
returns-then-scene-gt-LONGEST c =
    let a = c.args in
    let j = c.judge-judged in
    let n = c.none_taken-then-scene-gt-LONGEST in
    let z = session_at a.head a.levels.now a.bindings.now in record {
      out_after = none_advanced n.result a.head a.levels.now a.bindings.now a.out.now _ n.ensures.1
          (advance_too_long a.table.now a.scene.now j.result j.ensures a.most (omega (arith, c.if-most-eq0.false)) z a.out.now _ c.if-judged-ne0.false c.if-scene-gt-LONGEST.true n.ensures.0);
      levels_unchanged = refl;
    }

pub steps_from-requires : goal.steps_from-requires
steps_from-requires c =
    let a = c.args in
    let j = c.judge-judged in
    (then_accepted a.table.now a.scene.now j.result j.ensures c.if-judged-ne0.false, c.header_of.ensures, c.if-scene-gt-LONGEST.false, omega (arith, c.if-most-eq0.false))
