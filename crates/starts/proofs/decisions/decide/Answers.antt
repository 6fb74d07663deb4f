-- `decisions::decide` meets its contract: from what its callees ensure.
use mathlib.Core.Path.{refl, ap, ◌∙◌}
use mathlib.Core.List.{[]}
use native.Mathlib.Omega.{arith}
use Rattle.strands.specs.Levels.{level_names, level_spaces, level_strands}
use Rattle.attributes.specs.Attributes.{attributes_in}
use Rattle.attributes.proofs.HeldParts.{laid_first}
use Rattle.entries.proofs.Laying.{counted_few}
use Rattle.starts.proofs.Sorting.{sections_few}
use Rattle.starts.proofs.NoneForeign.{zeros_laid, zeros_plain}
use Rattle.starts.proofs.DecideWays.{decided_23, decided_plain, decided_held}
use Rattle.starts.proofs.decisions.decide.Goals as goal

pub returns-in_default-clause-decided : goal.returns-in_default-clause-decided
returns-in_default-clause-decided c = λ table header ready beside classes met placed.
    let a = c.args in
    decided_23 table (level_names a.levels.now) header a.index.now a.scene.now a.scratch.now.attrs a.scratch.now.codes a.scratch.now.own a.outer.now a.known.now (level_spaces a.levels.now) (level_strands a.levels.now) a.started a.placing a.head
    (record { ready = ready; beside = beside; own_classes = classes; met = met; placed = placed })
    _ _ _ _ [] [] _ c.in_default.ensures refl

pub weigh-requires : goal.weigh-requires
weigh-requires c =
    let a = c.args in
    let p = c.requires in
    let h = c.hold_plain-k.ensures in
    (h.0, omega arith, counted_few _ _ c.in-Some.ensures.0, p.1, λ q. zeros_plain a.scene.now a.scratch.now.attrs a.started.tag.count _ _ _ _ _ h.1 (p.5 c.if-started.true))

pub returns-then-started-clause-decided : goal.returns-then-started-clause-decided
returns-then-started-clause-decided c = λ table header ready beside classes met placed.
    let a = c.args in
    let h = c.hold_plain-k.ensures in
    rw c.ok_or.ensures.value
    (decided_plain table (level_names a.levels.now) header a.index.now a.scene.now a.scratch.now.attrs a.scratch.now.codes a.scratch.now.own a.outer.now a.known.now (level_spaces a.levels.now) (level_strands a.levels.now) a.started a.placing a.head
    (record { ready = ready; beside = beside; own_classes = classes; met = met; placed = placed })
    _ _ _ _ _ _ _ _ _ _ _ _ c.in-Some.ensures h.0 c.if-started.true h.1 c.weigh.ensures)

pub hold-n-requires : goal.hold-n-requires
hold-n-requires c =
    let p = c.requires in
    (p.3, p.4)

pub number_sections-m-requires : goal.number_sections-m-requires
number_sections-m-requires c = c.hold-n.ensures.0

pub weigh-requires-2 : goal.weigh-requires-2
weigh-requires-2 c =
    let few = c.hold-n.ensures.0 in
    let n = c.number_sections-m.ensures in
    (few, sections_few _ _ _ _ _ _ _ few n.0, counted_few _ _ c.in-Some.ensures.0, c.requires.1, zeros_laid _ _ _ _ _ _ _ _ _ n.0 n.2)

pub returns-clause-decided : goal.returns-clause-decided
returns-clause-decided c = λ table header ready beside classes met placed.
    let a = c.args in
    let h = c.hold-n.ensures in
    let v = c.number_sections-m.ensures in
    let held = c.hold-n.new.attributes in
    rw c.ok_or-2.ensures.value
    (decided_held table (level_names a.levels.now) header a.index.now a.scene.now a.scratch.now.attrs a.scratch.now.codes a.scratch.now.own a.outer.now a.known.now (level_spaces a.levels.now) (level_strands a.levels.now) a.started a.placing a.head
    (record { ready = ready; beside = beside; own_classes = classes; met = met; placed = placed })
    _ _ _ _ _ _ _ _ _ _ _ _ c.in-Some.ensures h.0 _ (attributes_in held) v.1
    (λ table header owned small outer-classes own_classes within. let q = h.1 table header owned small outer-classes own_classes within in (q.0, ap attributes_in q.1 ∙ laid_first _ a.scratch.now.attributes (omega (arith, h.0, q.0))))
    (v.0, v.2) c.weigh-2.ensures)

pub returns-clause-attrs_unchanged : goal.returns-clause-attrs_unchanged
returns-clause-attrs_unchanged c = (refl, refl)
