-- `entries::number_units` meets its contract: the strands so far have their units' numbers, those behind are as they were.
use Prim.Native.Nat.{ℕ, ◌+◌, ◌≤◌, ◌<◌}
use mathlib.Core.Path.{◌≡◌, refl, ap, ◌∙◌}
use mathlib.Core.List.{map}
use native.Mathlib.Omega.{arith}
use lib.ListN.{length, get_or, set, take, length-map}
use lib.Seq.{take_all, set-get_or}
use Rattle.std.proofs.lemmas.List.{length-take}
use Rattle.model.specs.Stream.{allot}
use Rattle.model.proofs.Steps.{allot_length}
use Rattle.strands.specs.Entries.{here_count, strand_word}
use Rattle.entries.proofs.UnitNumbers.{numbering_start, numbering_room, numbering_no, numbering_yes, numbering_end, numbering_same, part_numbered}
use Rattle.entries.proofs.number_units.Goals as goal
use Rattle.entries.proofs.number_units.Goals.{then-is_here, else-is_here}

pub loop-w-init : goal.loop-w-init
loop-w-init c =
    let a = c.args in
    let part = take a.n a.words.now in
    let p : (a.n ≤ 16) × (a.unit + here_count (take a.n a.words.now) ≤ 65536) = c.requires in
    let s : length (take a.n a.words.now) ≡ a.n = omega (arith, length-take {A = ℕ}) in
    let e : take a.n (take a.n a.words.now) ≡ take a.n a.words.now = take_all a.n part (omega arith) in
    (omega (arith, p.1), s, numbering_start part a.n a.unit s p.0 (omega (arith, p.1, ap here_count e)))

pub aimed-requires : goal.aimed-requires
aimed-requires c =
    let l = c.loop-w in
    let b = c.is_here in
    let h : l.w-index < c.args.n = omega (arith, length-take {A = ℕ}) in
    numbering_room _ _ _ l.w-items l.u l.w-index l.invariant.2 h _ b.result refl b.ensures c.if-is_here.true

pub loop-w-preserved : goal.loop-w-preserved
loop-w-preserved c =
    let n = c.args.n in
    let x = take n c.args.words.now in
    let unit = c.args.unit in
    let l = c.loop-w in
    let y = l.invariant.2 in
    let b = c.is_here in
    let i = l.w-index in
    let v = get_or l.w-items i 0 in
    let h : l.w-index < c.args.n = omega (arith, length-take {A = ℕ}) in
    elim c.if-is_here.branch [
      | then-is_here w ↦ numbering_same x n unit (set l.w-items i w.aimed.result) c.if-is_here.w-items (l.u + 1) c.if-is_here.u (i + 1) w.w-items-is w.u-is (numbering_yes x n unit l.w-items l.u i y h v b.result refl b.ensures w.if-is_here.true w.aimed.result w.aimed.ensures)
      | else-is_here w ↦ numbering_same x n unit l.w-items c.if-is_here.w-items l.u c.if-is_here.u (i + 1) (w.w-items-is ∙ set-get_or l.w-items i 0) w.u-is (numbering_no x n unit l.w-items l.u i y h v b.result refl b.ensures w.if-is_here.false)
    ]

pub returns : goal.returns
returns c es long are each =
    let n = c.args.n in
    let x = take n c.args.words.now in
    let l = c.loop-w in
    let h : c.args.n ≤ l.w-index = omega (arith, length-take {A = ℕ}) in
    let s : length (take c.args.n c.args.words.now) ≡ c.args.n = omega (arith, length-take {A = ℕ}, c.requires.0) in
    let t : take c.args.n (take c.args.n c.args.words.now) ≡ take c.args.n c.args.words.now = take_all n x (omega arith) in
    let k : length (map strand_word (allot c.args.unit es)) ≡ c.args.n = omega (arith, long, length-map (allot c.args.unit es) strand_word, allot_length c.args.unit es) in
    part_numbered c.args.words.now l.w-items (map strand_word (allot c.args.unit es)) n k (omega (arith, c.requires.0))
    (numbering_end x n c.args.unit l.w-items l.u l.w-index l.invariant.2 h es long (t ∙ are) each)
