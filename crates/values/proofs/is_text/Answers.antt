-- `values::is_text` meets its contract: its test is the definition.
use Rattle.lexer.proofs.CharTurns.{text_test}
use Rattle.values.proofs.is_text.Goals as goal

pub returns : goal.returns
returns c = search text_test
