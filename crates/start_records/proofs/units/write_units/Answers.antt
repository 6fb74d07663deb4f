-- `write_units` writes the units of each strand: those from the k-th on are left.
use Prim.Native.Nat.{ℕ, ◌≤◌, ◌<◌}
use mathlib.Core.Path.{refl, ap, ◌∙◌}
use native.Mathlib.Omega.{arith}
use lib.Seq.{get_or-take}
use Rattle.std.proofs.lemmas.List.{length-take}
use Rattle.strands.specs.Packed.{strand_in}
use Rattle.records.specs.Rows.{laid}
use Rattle.attributes.specs.Attributes.{attributes_in, sections_in, all_sorted}
use Rattle.start_records.proofs.UnitRows.{going_holds, word_in, word_units, all_units, part_done, strand_fits_lem, strand_on}
use Rattle.start_records.proofs.units.write_units.Goals as goal

pub loop-w-init : goal.loop-w-init
loop-w-init c =
    let a = c.args in
    let made = word_units a.index.now a.tag (all_sorted (attributes_in a.attributes.now) (sections_in a.attributes.now) a.n) a.m in
    (refl, going_holds (laid a.out.now 0) a.unit _ _ (all_units (word_in a.words.now) made a.count))

pub write_sections-wrote-requires : goal.write_sections-wrote-requires
write_sections-wrote-requires c =
    let a = c.args in
    let l = c.loop-w in
    let s = all_sorted (attributes_in a.attributes.now) (sections_in a.attributes.now) a.n in
    let p = c.requires in
    let h : l.w-index < a.count = omega (arith, length-take {A = ℕ}) in
    let e = c.mode_of.ensures.0 ∙ ap (λ (w : ℕ). (strand_in w).mode) (get_or-take a.count a.words.now l.w-index 0 h) in
    (p.0, p.1, strand_fits_lem a.index.now a.tag s a.m a.words.now a.count l.w-index _ _ _ _ _ l.invariant.1 h c.mode_of.result e 65536 p.3)

pub loop-w-preserved : goal.loop-w-preserved
loop-w-preserved c =
    let a = c.args in
    let l = c.loop-w in
    let s = all_sorted (attributes_in a.attributes.now) (sections_in a.attributes.now) a.n in
    let w = c.write_sections-wrote in
    let h : l.w-index < a.count = omega (arith, length-take {A = ℕ}) in
    let e = c.mode_of.ensures.0 ∙ ap (λ (w : ℕ). (strand_in w).mode) (get_or-take a.count a.words.now l.w-index 0 h) in (
      omega (arith, l.invariant.0, w.auto.out),
      strand_on a.index.now a.tag s a.m a.words.now a.count l.w-index _ _ _ _ _ l.invariant.1 h c.mode_of.result e _ _ w.ensures.0 w.ensures.1,
    )

pub returns : goal.returns
returns c =
    let a = c.args in
    let l = c.loop-w in
    let made = word_units a.index.now a.tag (all_sorted (attributes_in a.attributes.now) (sections_in a.attributes.now) a.n) a.m in
    let h : a.count ≤ l.w-index = omega (arith, length-take {A = ℕ}) in
    part_done (word_in a.words.now) made a.count l.w-index _ _ _ _ _ l.invariant.1 h
