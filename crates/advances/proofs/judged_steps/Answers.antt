-- `steps::judged_steps` meets its contract: what is left to do is what was asked.
use Prim.Native.Nat.{ℕ, ◌-◌}
use mathlib.Core.Path.{◌≡◌, refl, sym, ap, ◌∙◌}
use native.Mathlib.Omega.{arith}
use lib.ListN.{length, take, drop}
use Rattle.laws.proofs.Over.{part_whole_lem, part_back}
use Rattle.table.specs.Table.{decode}
use Rattle.sessions.specs.Sessions.{session_at}
use Rattle.sessions.specs.Stepping.{Step}
use Rattle.sessions.specs.Turns.{step_in}
use Rattle.sessions.proofs.Advancing.{so_far}
use Rattle.sessions.proofs.SoundCoherent.{sound_coherent}
use Rattle.advances.proofs.RunTurns.{Turned, loop_sound, going_first, going_turned, going_last}
use Rattle.advances.proofs.judged_steps.Goals as goal
use Rattle.advances.proofs.judged_steps.Goals.{After-judged_step-turn}

pub loop-events-init : goal.loop-events-init
loop-events-init c =
    let a = c.args in
    let p = c.requires in
    let z = session_at a.from a.levels.now a.bindings.now in
    (going_first a.table.now a.scene.now z a.out.now a.most (loop_sound a.table.now a.index.now a.scene.now a.known.now a.from a.levels.now a.bindings.now p), p.beside, refl)

pub judged_step-turn-requires : goal.judged_step-turn-requires
judged_step-turn-requires c =
    let a = c.args in
    let l = c.loop-events in
    let p = c.requires.ready in
    record {
      ready =
          record {
            accepted = p.accepted;
            header_is = p.header_is;
            index_is = p.index_is;
            short = p.short;
            coherent' = sound_coherent (decode a.table.now) a.scene.now (session_at l.head l.levels l.bindings) l.invariant.0.sound;
          };
      beside = l.invariant.1;
    }

-- a turn: the step that was handed back, and what it makes of the loop
abbrev stepped : After-judged_step-turn → Step
stepped c =
    let after = c.judged_step-turn.new in
    step_in c.judged_step-turn.result after.levels after.bindings after.out

turned : (c : After-judged_step-turn) → (
    let a = c.args in
    let l = c.loop-events in
    Turned a.table.now a.scene.now (session_at a.from a.levels.now a.bindings.now) a.out.now a.most l.out l.used l.events l.records (stepped c))
turned c =
    let a = c.args in
    let l = c.loop-events in
    let p = c.requires.ready in
    let z₀ = session_at a.from a.levels.now a.bindings.now in
    let z = session_at l.head l.levels l.bindings in
    going_turned a.table.now a.scene.now z₀ a.out.now a.most z l.out l.used l.events l.records l.invariant.0 c.loop-events-test.true p.accepted p.short
    (take (length l.out - l.used) (drop l.used l.out)) (part_whole_lem l.out l.used) (stepped c) c.judged_step-turn.ensures.fact.0

pub returns-then-number-ne0-clause-out_after : goal.returns-then-number-ne0-clause-out_after
returns-then-number-ne0-clause-out_after c =
    let l = c.loop-events in
    (turned (goal.at.returns-then-number-ne0-clause-out_after c).After-judged_step-turn).stops _ (part_back l.out l.used (stepped (goal.at.returns-then-number-ne0-clause-out_after c).After-judged_step-turn).output) c.if-number-ne0.true

pub returns-then-number-ne0-clause-levels_unchanged : goal.returns-then-number-ne0-clause-levels_unchanged
returns-then-number-ne0-clause-levels_unchanged c = c.judged_step-turn.ensures.levels_unchanged ∙ c.loop-events.invariant.2

pub overflow_mul-used : goal.overflow_mul-used
overflow_mul-used c = omega (arith, (turned (goal.at.overflow_mul-used c).After-judged_step-turn).room, c.loop-events.invariant.0.same_length, c.well_formed)

pub overflow_add-used : goal.overflow_add-used
overflow_add-used c = omega (arith, (turned (goal.at.overflow_add-used c).After-judged_step-turn).room, c.loop-events.invariant.0.same_length, c.well_formed)

pub overflow_add-records : goal.overflow_add-records
overflow_add-records c = omega (arith, (turned (goal.at.overflow_add-records c).After-judged_step-turn).room, c.loop-events.invariant.0.same_length, c.loop-events.invariant.0.counted, c.well_formed)

pub loop-events-preserved : goal.loop-events-preserved
loop-events-preserved c =
    let l = c.loop-events in
    ((turned (goal.at.loop-events-preserved c).After-judged_step-turn).goes _ (part_back l.out l.used (stepped (goal.at.loop-events-preserved c).After-judged_step-turn).output) c.if-number-ne0.false, c.judged_step-turn.ensures.fact.1, c.judged_step-turn.ensures.levels_unchanged ∙ l.invariant.2)

pub returns : goal.returns
returns c =
    let a = c.args in
    let l = c.loop-events in
    let z₀ = session_at a.from a.levels.now a.bindings.now in
    let z = session_at l.head l.levels l.bindings in
    let e : l.events ≡ a.most = omega arith in
    record {
      out_after =
          ap (λ (n : ℕ). so_far z n l.records l.out) (sym e)
          ∙ going_last a.table.now a.scene.now z₀ a.out.now a.most z l.out l.used l.events l.records l.invariant.0 (omega arith);
      levels_unchanged = l.invariant.2;
    }
