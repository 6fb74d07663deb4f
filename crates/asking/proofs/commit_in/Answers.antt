-- `asking::commit_in` meets its contract: a step, or what is withheld.
use mathlib.Core.Path.{refl, sym, ap, ◌∙◌}
use mathlib.Core.Bool.{Bool}
use Rattle.table.specs.Table.{standard}
use Rattle.sessions.specs.Sessions.{session_at}
use Rattle.sessions.specs.Asking.{step_where}
use Rattle.sessions.proofs.Advancing.{advance_one}
use Rattle.sessions.proofs.JudgedFirst.{step_judged_first}
use Rattle.asking.proofs.commit_in.Goals as goal

pub returns-then-same : goal.returns-then-same
returns-then-same c =
    let a = c.args in
    let z = session_at a.head a.levels.now a.bindings.now in
    let s = c.advance_in in record {
      out_after = s.ensures.out_after
          ∙ advance_one a.table.now a.scene.now z a.out.now
          ∙ sym (step_judged_first a.table.now a.scene.now z a.out.now)
          ∙ ap (λ (b : Bool). step_where b standard a.table.now a.scene.now z a.out.now) (sym c.if-same.true);
      levels_unchanged = s.ensures.levels_unchanged;
    }

pub returns-else-same : goal.returns-else-same
returns-else-same c =
    let a = c.args in
    let z = session_at a.head a.levels.now a.bindings.now in record {
      out_after = c.withheld.ensures a.out.now ∙ ap (λ (b : Bool). step_where b standard a.table.now a.scene.now z a.out.now) (sym c.if-same.false);
      levels_unchanged = refl;
    }
