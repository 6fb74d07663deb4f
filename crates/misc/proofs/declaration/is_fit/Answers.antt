-- `misc::declaration::is_fit` meets its contract: one case for each field.
use Rattle.misc.proofs.MiscTurns.{by_fit, fit_encoding}
use Rattle.misc.proofs.declaration.is_fit.Goals as goal

pub returns-in-Version : goal.returns-in-Version
returns-in-Version c = search by_fit

pub returns-in-Encoding : goal.returns-in-Encoding
returns-in-Encoding c = search fit_encoding
