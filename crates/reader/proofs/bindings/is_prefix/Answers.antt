-- `reader::bindings::is_prefix` meets its contract.
use mathlib.Core.Path.{◌∙◌}
use Rattle.reader.proofs.bindings.is_prefix.Goals as goal

pub returns : goal.returns
returns c = c.same_spelled.ensures ∙ rw (c.part_of.ensures.bytes, c.binding_in-b.ensures)
