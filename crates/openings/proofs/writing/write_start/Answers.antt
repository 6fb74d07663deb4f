-- `opening::write_start` meets its contract: the rows of the elements behind those of the attribute units.
use Rattle.attributes.specs.Attributes.{attributes_in, sections_in}
use Rattle.openings.proofs.Openings.{rows_behind}
use Rattle.openings.proofs.writing.write_start.Goals as goal

pub write_units-wrote-requires : goal.write_units-wrote-requires
write_units-wrote-requires c =
    let p = c.requires in
    (p.few_attributes, p.few_sections, p.few_strands, p.few_units)

pub write_elements-requires : goal.write_elements-requires
write_elements-requires c =
    let p = c.requires in
    (p.few_attributes, p.few_strands, p.schemas_small, p.none_foreign)

pub returns : goal.returns
returns c =
    let a = c.args in
    rows_behind a.index.now (attributes_in a.attributes.now) (sections_in a.attributes.now) a.words.now a.schemas.now a.begun a.units a.decided a.out.now _ _ _ _ c.write_units-wrote.ensures.1 c.write_elements.ensures
