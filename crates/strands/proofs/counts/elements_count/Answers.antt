-- `strands::counts::elements_count` meets its contract: the records along the strands so far.
use Prim.Native.Nat.{ℕ, ◌<◌}
use mathlib.Core.Path.{◌≡◌, ap, ◌∙◌}
use native.Mathlib.Omega.{arith}
use lib.ListN.{get_or}
use lib.Seq.{get_or-take}
use Rattle.std.proofs.lemmas.List.{length-take}
use Rattle.strands.specs.Packed.{strand_in}
use Rattle.attributes.specs.Attributes.{sorted_held}
use Rattle.strands.specs.Writing.{element_count}
use Rattle.strands.proofs.Counting.{entries_start, entries_next, entries_end}
use Rattle.strands.proofs.counts.elements_count.Goals as goal

pub loop-w-init : goal.loop-w-init
loop-w-init c = (omega arith, omega arith, λ schemas. entries_start _ schemas _)

pub loop-w-preserved : goal.loop-w-preserved
loop-w-preserved c =
    let a = c.args in
    let l = c.loop-w in
    let k = l.w-index in
    let e = c.element_count-r.ensures in
    let h : l.w-index < a.count = omega (arith, length-take {A = ℕ}) in
    let here = get_or-take a.count a.words.now k 0 h in (
      omega arith,
      omega (arith, l.invariant.1, e.1),
      λ schemas. entries_next _ schemas _ k l.r (l.invariant.2 schemas) _
          (e.0 (get_or schemas k 0) ∙ ap (λ (w : ℕ). element_count a.index.now (sorted_held a.attributes.now a.n) (record { strand = strand_in w; schema = get_or schemas k 0 })) here),
    )

pub returns : goal.returns
returns c =
    let l = c.loop-w in
    let e : l.w-index ≡ c.args.count = omega (arith, l.invariant.0, c.loop-w-test.false) in
    ((λ schemas. entries_end _ schemas _ l.w-index l.r (l.invariant.2 schemas) c.args.count e), omega (arith, l.invariant.0, l.invariant.1))
