-- `strands::counts::load_all` meets its contract: the units and records of the strands so far; none where there are no sections.
use Prim.Native.Nat.{ℕ, ◌<◌}
use mathlib.Core.Path.{◌≡◌, ap, ◌∙◌}
use native.Mathlib.Omega.{arith}
use lib.ListN.{get_or}
use lib.Seq.{get_or-take}
use Rattle.std.proofs.lemmas.List.{length-take}
use Rattle.laws.specs.Lists.{tabulate}
use Rattle.strands.specs.Packed.{strand_in}
use Rattle.strands.specs.Rules.{units_for}
use Rattle.attributes.specs.Attributes.{attributes_in, sections_in, all_sorted}
use Rattle.strands.specs.Writing.{members, head_class, section_count}
use Rattle.strands.proofs.Counting.{total_start, sum_next, sum_end, units_in_mode, records_in_mode, no_sections}
use Rattle.strands.proofs.counts.load_all.Goals as goal

pub returns-else-m-ne0 : goal.returns-else-m-ne0
returns-else-m-ne0 c =
    let a = c.args in
    let l = all_sorted (attributes_in a.attributes.now) (sections_in a.attributes.now) a.n in
    let ws = tabulate (λ (i : ℕ). get_or a.words.now i 0) 0 a.count in
    (no_sections (λ (w j : ℕ). units_for a.index.now (strand_in w).mode (head_class (members l j))) a.m ws c.if-m-ne0.false, no_sections (λ (w : ℕ). section_count a.index.now (strand_in w).mode l) a.m ws c.if-m-ne0.false, omega arith, omega arith)

pub loop-w-init : goal.loop-w-init
loop-w-init c = (omega arith, omega arith, omega arith, total_start _ _ 0, total_start _ _ 0)

pub add_assign-requires : goal.add_assign-requires
add_assign-requires c =
    let i = c.loop-w.invariant in
    let o = c.load_of.ensures in
    (omega (arith, i.0, i.1, o.2), omega (arith, i.0, i.2, o.3))

pub loop-w-preserved : goal.loop-w-preserved
loop-w-preserved c =
    let l = c.loop-w in
    let i = l.invariant in
    let o = c.load_of.ensures in
    let s = c.add_assign.ensures.after in
    let h : l.w-index < c.args.count = omega (arith, length-take {A = ℕ}) in
    let m = c.mode_of.ensures.0 ∙ ap (λ (w : ℕ). (strand_in w).mode) (get_or-take c.args.count c.args.words.now l.w-index 0 h) in (
      omega arith,
      omega (arith, i.1, o.2, s.0),
      omega (arith, i.2, o.3, s.1),
      s.0 ∙ sum_next _ _ l.w-index l.load.units i.3 _ (units_in_mode _ _ _ _ _ _ m o.0),
      s.1 ∙ sum_next _ _ l.w-index l.load.records i.4 _ (records_in_mode _ _ _ _ _ _ m o.1),
    )

pub returns-after-loop-w : goal.returns-after-loop-w
returns-after-loop-w c =
    let l = c.loop-w in
    let i = l.invariant in
    let e : l.w-index ≡ c.args.count = omega (arith, i.0, c.loop-w-test.false) in
    (sum_end _ _ l.w-index l.load.units i.3 c.args.count e, sum_end _ _ l.w-index l.load.records i.4 c.args.count e, omega (arith, i.0, i.1), omega (arith, i.0, i.2))
