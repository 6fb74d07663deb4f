-- `calcivorne_offer_size` meets its contract.
use mathlib.Core.Path.{refl}
use Rattle.offers.proofs.calcivorne_offer_size.Goals as goal

pub returns : goal.returns
returns c = refl
