-- `layout::answers::tell` meets its contract.
use mathlib.Core.Path.{refl}
use Rattle.layout.proofs.answers.tell.Goals as goal

pub returns : goal.returns
returns c = refl
