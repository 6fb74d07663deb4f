-- `levels::level_fits` meets its contract, also past the arrays.
use Rattle.std.proofs.Common.{sym, ◌∙◌, arith}
use Rattle.std.proofs.lemmas.Grind.{common_steps}
use Rattle.coherence.specs.Checks.{level_fits}
use Rattle.strands.specs.Levels.{level_names, level_spaces, level_strands}
use Rattle.strands.proofs.LevelNumbers.{each_long}
use Rattle.coherence.proofs.CheckWays.{level_past, level_name, level_class, level_uri_lem}
use Rattle.coherence.proofs.levels.level_fits.Goals as goal
use Rattle.coherence.proofs.levels.level_fits.Goals.{then-name_fits, else-name_fits, then-class_fits, else-class_fits}

pub returns-then-k-ge-DEPTH : goal.returns-then-k-ge-DEPTH
returns-then-k-ge-DEPTH c = let a = c.args in level_past a.scene.now a.listed a.modes a.units (level_names a.levels.now) (level_spaces a.levels.now) (level_strands a.levels.now) a.k (each_long 4 3 a.levels.now) c.if-k-ge-DEPTH.true

pub returns-then-inside : goal.returns-then-inside
unfolding level_fits
returns-then-inside c = grind (arith, common_steps)

pub returns-else-inside : goal.returns-else-inside
returns-else-inside c =
    let a = c.args in
    let names = level_names a.levels.now in
    let spaces = level_spaces a.levels.now in
    let strands = level_strands a.levels.now in
    c.if-inside.false
    ∙ elim c.if-name_fits.branch [
      | then-name_fits w ↦ elim c.if-class_fits.branch [
        | then-class_fits x ↦ level_uri_lem a.scene.now a.listed a.modes a.units names spaces strands a.k _ _ c.space_at-at.ensures c.space_at-len.ensures x.inside.result x.inside.ensures (sym x.value-is ∙ c.if-inside.false)
        | else-class_fits x ↦ level_class a.scene.now a.listed a.modes a.units names spaces strands a.k _ w.space_at.ensures w.class_fits.result w.class_fits.ensures (sym w.value-is ∙ x.if-class_fits.false)
      ]
      | else-name_fits w ↦ level_name a.scene.now a.listed a.modes a.units names spaces strands a.k _ c.name_at.ensures c.name_fits.result c.name_fits.ensures w.if-name_fits.false
    ]
