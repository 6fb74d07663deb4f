-- `misc::declaration::field_word_end` meets its contract: one case for each field.
use Rattle.misc.proofs.MiscTurns.{by_word}
use Rattle.misc.proofs.declaration.field_word_end.Goals as goal

pub returns-in-Version : goal.returns-in-Version
returns-in-Version c = search by_word

pub returns-in-Encoding : goal.returns-in-Encoding
returns-in-Encoding c = search by_word

pub returns-in-Standalone : goal.returns-in-Standalone
returns-in-Standalone c = search by_word
