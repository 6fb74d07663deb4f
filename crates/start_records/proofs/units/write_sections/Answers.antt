-- `write_sections` writes the units of each section: those from the j-th on are left.
use Prim.Native.Nat.{ℕ, ◌+◌, ◌≤◌, ◌<◌}
use mathlib.Core.Path.{refl}
use native.Mathlib.Omega.{arith}
use Rattle.records.specs.Rows.{laid}
use Rattle.attributes.specs.Attributes.{attributes_in, sections_in, all_sorted}
use Rattle.strands.specs.Writing.{section_units}
use Rattle.start_records.proofs.UnitRows.{going_holds, all_sections, part_fits, part_on, part_done}
use Rattle.start_records.proofs.units.write_sections.Goals as goal

pub loop-j-init : goal.loop-j-init
loop-j-init c =
    let a = c.args in
    let all = all_sections a.index.now a.tag (all_sorted (attributes_in a.attributes.now) (sections_in a.attributes.now) a.n) a.m a.mode in
    (refl, going_holds (laid a.out.now a.from.used) a.from.unit _ _ all)

pub write_section-wrote-requires : goal.write_section-wrote-requires
write_section-wrote-requires c =
    let a = c.args in
    let l = c.loop-j in
    let made = section_units a.index.now a.mode a.tag (all_sorted (attributes_in a.attributes.now) (sections_in a.attributes.now) a.n) in
    let h : l.j < a.m + 1 = omega (arith, c.loop-j-test.true) in
    (c.requires.0, omega (arith, h, c.requires.1), part_fits (λ (k : ℕ). k) made (a.m + 1) l.j _ _ _ _ _ l.invariant.1 h 65536 c.requires.2)

pub loop-j-preserved : goal.loop-j-preserved
loop-j-preserved c =
    let a = c.args in
    let l = c.loop-j in
    let made = section_units a.index.now a.mode a.tag (all_sorted (attributes_in a.attributes.now) (sections_in a.attributes.now) a.n) in
    let w = c.write_section-wrote in
    let h : l.j < a.m + 1 = omega (arith, c.loop-j-test.true) in
    (omega (arith, l.invariant.0, w.auto.out), part_on (λ (k : ℕ). k) made (a.m + 1) l.j _ _ _ _ _ l.invariant.1 h _ _ w.ensures.0 w.ensures.1)

pub returns : goal.returns
returns c =
    let a = c.args in
    let l = c.loop-j in
    let made = section_units a.index.now a.mode a.tag (all_sorted (attributes_in a.attributes.now) (sections_in a.attributes.now) a.n) in
    let h : a.m + 1 ≤ l.j = omega (arith, c.loop-j-test.false) in
    part_done (λ (k : ℕ). k) made (a.m + 1) l.j _ _ _ _ _ l.invariant.1 h

pub returns-2 : goal.returns-2
returns-2 c =
    let a = c.args in
    let l = c.loop-j in
    let made = section_units a.index.now a.mode a.tag (all_sorted (attributes_in a.attributes.now) (sections_in a.attributes.now) a.n) in
    let w = c.write_section-wrote in
    let h : l.j < a.m + 1 = omega (arith, c.loop-j-test.true) in
    let e : a.m + 1 ≤ l.j + 1 = omega arith in
    part_done (λ (k : ℕ). k) made (a.m + 1) (l.j + 1) _ _ _ _ _ (part_on (λ (k : ℕ). k) made (a.m + 1) l.j _ _ _ _ _ l.invariant.1 h _ _ w.ensures.0 w.ensures.1) e
