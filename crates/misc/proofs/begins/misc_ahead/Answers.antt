-- `misc::begins::misc_ahead` meets its contract, by the cases of what its callee answers.
use Rattle.laws.specs.Tests.{tests}
use Rattle.lexer.specs.Begins.{misc_ahead}
use Rattle.lexer.proofs.Behind.{by_read}
use Rattle.misc.proofs.begins.misc_ahead.Goals as goal

pub returns-in-Ok : goal.returns-in-Ok
unfolding misc_ahead
returns-in-Ok c = search (by_read, tests)

pub returns-in-Err : goal.returns-in-Err
unfolding misc_ahead
returns-in-Err c = search (by_read, tests)
