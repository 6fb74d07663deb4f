-- `reader::bindings::binding_in` meets its contract, inside the array and past it.
use Rattle.reader.proofs.Slots.{binding_past, binding_made}
use Rattle.reader.proofs.bindings.binding_in.Goals as goal

pub returns-then-l-k : goal.returns-then-l-k
returns-then-l-k c = search binding_past

pub returns : goal.returns
returns c = search binding_made
