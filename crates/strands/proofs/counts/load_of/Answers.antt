-- `strands::counts::load_of` meets its contract: the units and records of the sections so far.
use Prim.Native.Nat.{ℕ, ◌+◌}
use mathlib.Core.Path.{◌≡◌}
use native.Mathlib.Omega.{arith}
use Rattle.strands.proofs.Counting.{total_start, load_few, sections_next, sections_end, counted_units, counted_records}
use Rattle.strands.proofs.counts.load_of.Goals as goal

pub loop-j-init : goal.loop-j-init
loop-j-init c = (omega arith, omega arith, omega arith, omega arith, total_start (λ (i : ℕ). i) _ 1, total_start (λ (i : ℕ). i) _ 1)

pub overflow_mul-records-in-loop-j : goal.overflow_mul-records-in-loop-j
overflow_mul-records-in-loop-j c = omega (arith, load_few _ _ c.units_for-v.ensures.1 c.members_of.ensures.1)

pub overflow_add-records-in-loop-j : goal.overflow_add-records-in-loop-j
overflow_add-records-in-loop-j c =
    let i = c.loop-j.invariant in
    omega (arith, load_few _ _ c.units_for-v.ensures.1 c.members_of.ensures.1, i.0, i.1, i.3)

pub loop-j-preserved : goal.loop-j-preserved
loop-j-preserved c =
    let l = c.loop-j in
    let t = c.loop-j-test.true in
    let s = c.section_class-class.ensures in
    let u = c.units_for-v.ensures in
    let m = c.members_of.ensures in
    let i = l.invariant in
    let f = load_few _ _ u.1 m.1 in (
      omega (arith, t),
      omega (arith, t),
      omega (arith, i.0, i.2, u.1),
      omega (arith, i.0, i.3, f),
      sections_next _ l.j l.units i.4 _ i.0 (counted_units _ _ _ l.j _ _ s u.0),
      sections_next _ l.j l.records i.5 _ i.0 (counted_records _ _ _ l.j _ _ s u.0 _ m.0),
    )

pub returns : goal.returns
returns c =
    let l = c.loop-j in
    let i = l.invariant in
    let e : l.j ≡ c.args.m + 1 = omega (arith, i.1, c.loop-j-test.false) in
    (sections_end _ l.j l.units i.4 c.args.m e, sections_end _ l.j l.records i.5 c.args.m e, omega (arith, e, i.2), omega (arith, e, i.3))

pub returns-2 : goal.returns-2
returns-2 c =
    let l = c.loop-j in
    let s = c.section_class-class.ensures in
    let u = c.units_for-v.ensures in
    let m = c.members_of.ensures in
    let i = l.invariant in
    let f = load_few _ _ u.1 m.1 in
    let e : l.j + 1 ≡ c.args.m + 1 = omega arith in (
      sections_end _ (l.j + 1) _ (sections_next _ l.j l.units i.4 _ i.0 (counted_units _ _ _ l.j _ _ s u.0)) c.args.m e,
      sections_end _ (l.j + 1) _ (sections_next _ l.j l.records i.5 _ i.0 (counted_records _ _ _ l.j _ _ s u.0 _ m.0)) c.args.m e,
      omega (arith, i.0, i.2, u.1),
      omega (arith, i.0, i.3, f),
    )
