-- `forecast::figures::figures_of` meets its contract: the figures so far are those of the events taken.
use mathlib.Core.Path.{ap, ◌∙◌}
use mathlib.Core.Logic.{inl, inr}
use native.Mathlib.Omega.{arith}
use mathlib.Core.List.{[]}
use Rattle.sessions.specs.Sessions.{session_at}
use Rattle.sessions.specs.Stepping.{Step}
use Rattle.sessions.specs.Turns.{step_in}
use Rattle.forecast.specs.Forecasts.{greater_of}
use Rattle.forecast.proofs.Greatest.{greater_max}
use Rattle.forecast.proofs.FigureTurns.{Turned, first_figured, first_beside, turn_ready, turned, turn_again}
use Rattle.forecast.proofs.figures.figures_of.Goals as goal
use Rattle.forecast.proofs.figures.figures_of.Goals.{After-weighed_step-turn, then-head-next, else-head-next}

-- the step that was handed back
abbrev stepped : After-weighed_step-turn → Step
stepped c =
    let after = c.weighed_step-turn.new in
    step_in c.weighed_step-turn.result after.levels after.bindings []

turn : (c : After-weighed_step-turn) → (
    let a = c.args in
    let l = c.loop-levels in
    Turned a.table.now a.scene.now (session_at l.head l.levels l.bindings) l.records l.strands l.depth (stepped c))
turn c =
    let a = c.args in
    let p = c.requires in
    let l = c.loop-levels in
    turned a.table.now a.scene.now p.0 p.2 (session_at l.head l.levels l.bindings) l.records l.strands l.depth l.invariant.0 (stepped c) c.weighed_step-turn.ensures.0

pub loop-levels-init : goal.loop-levels-init
loop-levels-init c =
    let a = c.args in
    let h = c.fresh-head in
    (first_figured a.table.now a.scene.now h.result h.ensures, first_beside a.table.now a.scene.now h.result h.ensures)

pub weighed_step-turn-requires : goal.weighed_step-turn-requires
weighed_step-turn-requires c =
    let l = c.loop-levels in
    let p = c.requires in
    turn_ready _ _ _ _ _ _ _ _ p l.invariant.0 l.invariant.1

pub returns-then-number-ne0 : goal.returns-then-number-ne0
returns-then-number-ne0 c = (turn (goal.at.returns-then-number-ne0 c).After-weighed_step-turn).stops c.if-number-ne0.true

pub count_at-requires : goal.count_at-requires
count_at-requires c = omega (arith, c.if-head-next.true, (turn (goal.at.count_at-requires c).After-weighed_step-turn).shallow c.if-number-ne0.false)

pub overflow_add-records : goal.overflow_add-records
overflow_add-records c = record { fits = (turn (goal.at.overflow_add-records c).After-weighed_step-turn).fits c.if-number-ne0.false }

pub loop-levels-smaller : goal.loop-levels-smaller
loop-levels-smaller c = (turn (goal.at.loop-levels-smaller c).After-weighed_step-turn).less c.if-number-ne0.false

pub loop-levels-preserved : goal.loop-levels-preserved
loop-levels-preserved c =
    let w = (goal.at.loop-levels-preserved c).After-weighed_step-turn in (
      turn_again _ _ _ _ _ _ (stepped w) (turn w) c.if-number-ne0.false c.if-head-next.strands c.if-head-next.depth
          (elim c.if-head-next.branch [ then-head-next v ↦ inl (v.if-head-next.true, v.strands-is ∙ v.max-strands.ensures ∙ greater_max _ _ ∙ ap (greater_of _) v.count_at.ensures, v.depth-is ∙ v.max-depth.ensures ∙ greater_max _ _) | else-head-next v ↦ inr (v.if-head-next.false, v.strands-is, v.depth-is) ]),
      w.weighed_step-turn.ensures.1,
    )
