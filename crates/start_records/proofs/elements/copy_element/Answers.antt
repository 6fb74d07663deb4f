-- `copy_element` lays the rows of the element along a strand, if a unit gets them.
use mathlib.Core.Path.{refl, ap, ◌∙◌}
use mathlib.Core.List.{map}
use native.Mathlib.Omega.{arith}
use Rattle.laws.specs.Gather.{gather}
use Rattle.records.specs.Rows.{laid, laid_rows}
use Rattle.records.proofs.Laid.{if_within}
use Rattle.records.proofs.Words.{unit_few}
use Rattle.model.specs.Stream.{Entry}
use Rattle.strands.specs.Packed.{strand_in, target_in}
use Rattle.attributes.specs.Attributes.{attributes_in, sections_in, all_sorted}
use Rattle.strands.specs.Writing.{row_of, sorted_bodies, whole_bodies}
use Rattle.start_records.proofs.ElementRows.{element_none, element_laid}
use Rattle.start_records.proofs.Copies.{bodies_many, copy_laid, element_whole}
use Rattle.start_records.proofs.KeptCopies.{start_copied}
use borrow.Author.Rules.{rules}
use mathlib.Core.Bool.{not}
use Rattle.start_records.proofs.elements.copy_element.Goals as goal

pub returns-then-not-delivers : goal.returns-then-not-delivers
returns-then-not-delivers c =
    let a = c.args in
    let d = c.delivers in
    let l = all_sorted (attributes_in a.attributes.now) (sections_in a.attributes.now) a.n in
    (omega arith, λ begun h. element_none a.index.now a.tag begun l a.w a.schema d.result d.ensures (laid a.out.now a.from) (ap not c.if-not-delivers.true))

pub put_words-requires : goal.put_words-requires
put_words-requires c =
    let p = c.requires in
    let a = c.args in
    let w = if_within a.out.now a.from _ _ _ _ c.put_open-a.ensures in
    (search rules, omega arith, λ j h. omega (arith, p.5 j h, p.4, unit_few (target_in a.w)))

pub overflow_add-result : goal.overflow_add-result
overflow_add-result c =
    let a = c.args in
    let w = if_within a.out.now a.from _ _ _ _ c.put_open-a.ensures in
    omega arith

pub returns-then-m-eq0 : goal.returns-then-m-eq0
returns-then-m-eq0 c =
    let a = c.args in
    let d = c.delivers in
    let w = if_within a.out.now a.from _ _ _ _ c.put_open-a.ensures in
    let at = attributes_in a.attributes.now in
    let ss = sections_in a.attributes.now in
    let l = all_sorted at ss a.n in
    let e : Entry = record { strand = strand_in a.w; schema = a.schema } in (
      omega arith,
      λ begun h. copy_laid a.w a.schema a.tag d.result d.ensures (whole_bodies begun l) (ap not c.if-not-delivers.false) (target_in a.w) (strand_in a.w).here refl refl a.rows.now a.out.now _ _ a.from _ _ _ c.put_open-a.ensures h (bodies_many begun at ss a.n) (omega arith) c.requires.4 c.put_words.ensures
          ∙ ap (λ rs. laid_rows (laid a.out.now a.from) (map row_of rs)) (element_whole at ss a.n (c.requires.6 c.if-m-eq0.true) a.index.now a.tag begun e),
    )

pub put_words-requires-2 : goal.put_words-requires-2
put_words-requires-2 c =
    let p = c.requires in
    let a = c.args in
    let w = if_within a.out.now a.from _ _ _ _ c.put_open-a.ensures in
    (search rules, omega arith, λ j h. omega (arith, p.5 j (omega arith), p.4, unit_few (target_in a.w)))

pub overflow_add-b : goal.overflow_add-b
overflow_add-b c =
    let a = c.args in
    let w = if_within a.out.now a.from _ _ _ _ c.put_open-a.ensures in
    omega arith

pub copy_kept-requires : goal.copy_kept-requires
copy_kept-requires c =
    let p = c.requires in
    let a = c.args in
    let w = if_within a.out.now a.from _ _ _ _ c.put_open-a.ensures in
    (p.0, omega arith, λ j h. omega (arith, p.5 j h, p.4, unit_few (target_in a.w)))

pub returns : goal.returns
returns c =
    let a = c.args in
    let d = c.delivers in
    let t = target_in a.w in
    let l = all_sorted (attributes_in a.attributes.now) (sections_in a.attributes.now) a.n in
    let m = c.requires.4 in
    let w = if_within a.out.now a.from _ _ _ _ c.put_open-a.ensures in
    let k = c.copy_kept.ensures in (
      omega (arith, k.0),
      λ begun h. element_laid a.index.now a.tag begun l a.w a.schema d.result d.ensures (ap not c.if-not-delivers.false) t c.mode_of.result (strand_in a.w).here refl c.mode_of.ensures.0 refl
          (laid a.out.now a.from) _ _ _ c.put_open-a.ensures (start_copied a.rows.now begun (gather sorted_bodies l) t _ _ _ _ h m (omega arith) c.put_words-2.ensures) (k.1 begun t h m),
    )
