-- `lexer::names::is_name` meets its contract: its bits are the answers.
use Rattle.lexer.proofs.NameBits.{low_bits, high_bits, no_bits}
use Rattle.lexer.proofs.names.is_name.Goals as goal

pub returns-then-b-lt64 : goal.returns-then-b-lt64
returns-then-b-lt64 c = low_bits c.args.b c.if-b-lt64.true

pub returns-then-b-lt128 : goal.returns-then-b-lt128
returns-then-b-lt128 c = high_bits c.args.b c.if-b-lt64.false c.if-b-lt128.true

pub returns : goal.returns
returns c = no_bits c.args.b c.if-b-lt128.false
