-- `attributes::sections::in_section` meets its contract: 0 is no section.
use mathlib.Core.Path.{sym, ◌∙◌}
use Rattle.attributes.specs.Attributes.{given_in, attributes_in}
use Rattle.attributes.proofs.Numbering.{out_of, in_of}
use Rattle.attributes.proofs.sections.in_section.Goals as goal

pub returns-else-section_at-ne0 : goal.returns-else-section_at-ne0
returns-else-section_at-ne0 c = rw c.if-section_at-ne0.false (out_of c.args.s.now _ _ _ (sym c.section_at.ensures ∙ c.if-section_at-ne0.false))

pub returns-then-section_at-ne0 : goal.returns-then-section_at-ne0
returns-then-section_at-ne0 c =
    let a = c.args in
    let f = c.found_at in
    in_of a.s.now a.own.now a.outer.now a.f f.result (given_in (attributes_in a.attributes.now) a.k).code _ f.ensures (λ z. c.if-section_at-ne0.true (c.section_at.ensures ∙ z)) _ c.same_space.ensures
