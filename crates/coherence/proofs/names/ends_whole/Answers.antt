-- `names::ends_whole` meets its contract: at each turn the machine that the bytes cut is where `b` is, and `f` is what a character that is not whole says.
use Prim.Native.Nat.{ℕ, ◌+◌, ◌-◌, ◌<◌, ◌≤◌}
use mathlib.Core.Path.{◌≡◌, ap, ◌∙◌}
use mathlib.Core.List.{List}
use native.Mathlib.Nat.{add-zero}
use native.Mathlib.Omega.{arith}
use lib.ListN.{length, get_or, take, drop, length-drop}
use lib.Seq.{get_or-drop}
use Rattle.laws.proofs.Over.{part_whole_lem}
use Rattle.utf8.specs.Forms.{next_form, Bounded}
use Rattle.coherence.proofs.NameChecks.{whole_quick, cutting_starts, cutting_on, cutting_whole, cutting_ends}
use Rattle.coherence.proofs.names.ends_whole.Goals as goal
use Rattle.coherence.proofs.names.ends_whole.Goals.{then-f-eq0, else-f-eq0}

part_length : (l : List ℕ) (at : ℕ) → length (take (length l - at) (drop at l)) ≡ length l - at
part_length l at = ap (λ (x : List ℕ). length x) (part_whole_lem l at) ∙ length-drop at l

part_byte : (l : List ℕ) (at i : ℕ) → get_or (take (length l - at) (drop at l)) i 0 ≡ get_or l (at + i) 0
part_byte l at i = ap (λ (x : List ℕ). get_or x i 0) (part_whole_lem l at) ∙ get_or-drop at l i 0

pub returns-then-name-lt128 : goal.returns-then-name-lt128
returns-then-name-lt128 c = search whole_quick

pub loop-b-init : goal.loop-b-init
loop-b-init c = rw add-zero (search cutting_starts)

pub next_form-f-requires : goal.next_form-f-requires
next_form-f-requires c = c.loop-b.invariant.small

pub loop-b-preserved : goal.loop-b-preserved
loop-b-preserved c =
    let a = c.args in
    let l = c.loop-b in
    let s = a.name.now in
    let z : a.at + (l.b-index + 1) ≡ a.at + l.b-index + 1 = omega arith in
    let h : a.at + l.b-index < length s = omega (arith, c.loop-b-test.true, part_length s a.at) in
    let f : (c.next_form-f.result ≡ next_form l.f (get_or s (a.at + l.b-index) 0)) × Bounded c.next_form-f.result = (c.next_form-f.ensures.0 ∙ ap (next_form l.f) (part_byte s a.at l.b-index), c.next_form-f.ensures.1) in
    elim c.if-f-eq0.branch [
      | then-f-eq0 w ↦ rw (z, w.f-is) (cutting_whole s a.at l.f (a.at + l.b-index) l.invariant h c.next_form-f.result f w.if-f-eq0.true w.fresh_form-f-then-f-eq0.result w.fresh_form-f-then-f-eq0.ensures)
      | else-f-eq0 w ↦ rw (z, w.f-is) (cutting_on s a.at l.f (a.at + l.b-index) l.invariant h c.next_form-f.result f w.if-f-eq0.false)
    ]

pub returns : goal.returns
returns c =
    let a = c.args in
    let l = c.loop-b in
    let past : length a.name.now ≤ a.at + l.b-index = omega (arith, c.loop-b-test.false, part_length a.name.now a.at) in
    cutting_ends a.name.now a.at l.f (a.at + l.b-index) l.invariant c.requires.0 past
