-- `lexer::names::part_broken` meets its contract: at each turn the answer is the machine's from `i` on, with the bytes of a character that is not whole.
use native.Mathlib.Omega.{arith}
use Rattle.lexer.proofs.Parts.{reading_starts, reading_cut, reading_ends, reading_bad, reading_long, reading_on, reading_whole}
use Rattle.lexer.proofs.names.part_broken.Goals as goal
use Rattle.lexer.proofs.names.part_broken.Goals.{then-g-eq0, else-g-eq0}

pub loop-i-init : goal.loop-i-init
loop-i-init c = reading_starts _ _ _ _ c.requires.0 c.requires.1 c.fresh_form-f.ensures

pub next_form-g-requires : goal.next_form-g-requires
next_form-g-requires c = c.loop-i.invariant.small

pub can_begin-requires : goal.can_begin-requires
can_begin-requires c = c.next_form-g.ensures.1

pub returns-then-start-i : goal.returns-then-start-i
returns-then-start-i c = search reading_ends

pub returns-then-not-can_begin : goal.returns-then-not-can_begin
returns-then-not-can_begin c = search reading_bad

pub overflow_sub-i : goal.overflow_sub-i
overflow_sub-i c = let r = c.loop-i.invariant in omega (arith, r.low, r.long)

pub returns-then-i-at-eq64 : goal.returns-then-i-at-eq64
returns-then-i-at-eq64 c = search reading_long

pub loop-i-preserved : goal.loop-i-preserved
loop-i-preserved c = elim c.if-g-eq0.branch [ then-g-eq0 w ↦ rw (w.start-is, w.f-is) (search reading_whole) | else-g-eq0 w ↦ rw (w.start-is, w.f-is) (search reading_on) ]

pub returns : goal.returns
returns c = search reading_cut
