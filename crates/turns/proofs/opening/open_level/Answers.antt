-- `opening::open_level` meets its contract: 25, or the records and the level laid down.
use mathlib.Core.Path.{refl, sym, ap, ◌∙◌, subst}
use Prim.Native.Nat.{ℕ}
use Rattle.attributes.specs.Attributes.{attributes_in, sections_in}
use Rattle.openings.specs.Openings.{Openable}
use Rattle.strands.specs.Levels.{level_names, level_spaces, level_strands}
use Rattle.strands.specs.declared.Begun.{Begun}
use Rattle.sessions.specs.Turns.{step_in}
use Rattle.sessions.specs.declared.Turn.{Turn}
use Rattle.turns.proofs.OpeningTurns.{full_start, room_start}
use Rattle.turns.proofs.opening.open_level.Goals as goal

pub returns-then-out-decided : goal.returns-then-out-decided
returns-then-out-decided c =
    let a = c.args in record {
      by_index = λ table s p ready as-planned.
          ap (λ (r : Turn). step_in r a.levels.now a.bindings.now a.out.now) c.stop.ensures
          ∙ full_start table a.index.now s a.scratch.now.own a.scratch.now.words a.scratch.now.schemas a.scratch.now.attributes a.started a.placing a.decided a.head (level_names a.levels.now) a.bindings.now (level_spaces a.levels.now) (level_strands a.levels.now) p
          ready as-planned a.out.now c.if-out-decided.true;
      levels_unchanged = refl;
      tag_unchanged = (refl, refl, refl);
      decided_unchanged = (refl, refl, refl);
    }

pub write_start-requires : goal.write_start-requires
write_start-requires c =
    let a = c.args in
    subst (λ (n : ℕ). Openable a.index.now (attributes_in a.scratch.now.attributes) (sections_in a.scratch.now.attributes) a.scratch.now.words a.scratch.now.schemas n a.head.units a.decided)
    (sym (ap (λ (b : Begun). b.tag) c.begun_of.ensures)) c.requires.1

pub lay_level-requires : goal.lay_level-requires
lay_level-requires c = let p = c.requires in (p.0, p.1.few_strands)

pub returns-clause-by_index : goal.returns-clause-by_index
returns-clause-by_index c = λ table s p ready as-planned.
    let a = c.args in
    room_start table a.index.now s a.scratch.now.own a.scratch.now.words a.scratch.now.schemas a.scratch.now.attributes a.started a.placing a.decided a.head (level_names a.levels.now) a.bindings.now (level_spaces a.levels.now) (level_strands a.levels.now) p
    ready as-planned a.out.now c.begun_of.result c.begun_of.ensures
    c.lay_level.result _ _ _ _ _ _ c.if-out-decided.false c.write_start.ensures
    (c.lay_level.ensures.bindings_after table a.index.now s a.scratch.now.schemas a.scratch.now.attributes p ready as-planned)

pub returns-clause-levels_unchanged : goal.returns-clause-levels_unchanged
returns-clause-levels_unchanged c = c.lay_level.ensures.levels_unchanged

pub returns-clause-tag_unchanged : goal.returns-clause-tag_unchanged
returns-clause-tag_unchanged c = (refl, refl, refl)

pub returns-clause-decided_unchanged : goal.returns-clause-decided_unchanged
returns-clause-decided_unchanged c = (refl, refl, refl)
