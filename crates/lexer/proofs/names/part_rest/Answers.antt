-- `lexer::names::part_rest` meets its contract: what is passed over at once changes no answer.
use mathlib.Core.Path.{◌∙◌}
use Rattle.lexer.proofs.names.part_rest.Goals as goal

pub part_broken-requires : goal.part_broken-requires
part_broken-requires c = (c.part_chars.ensures.0, c.part_chars.ensures.1)

pub returns : goal.returns
returns c = c.part_broken.ensures ∙ c.part_chars.ensures.2
