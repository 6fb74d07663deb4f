-- `reader::kinds::refused_binding` meets its contract.
use Rattle.reader.proofs.Names.{refused_by}
use Rattle.reader.proofs.kinds.refused_binding.Goals as goal

pub returns : goal.returns
returns c =
    rw (c.is_empty.ensures, c.is_empty-2.ensures)
    (refused_by c.args.s.now c.args.b c.part_of-prefix.result.now c.part_of-uri.result.now _ _ _ _ _ c.part_of-prefix.ensures.bytes c.part_of-uri.ensures.bytes c.same.ensures c.same-2.ensures c.is_xml_uri.ensures c.is_xmlns_uri.ensures c.has_reference.ensures)
