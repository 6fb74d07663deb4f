-- `reader::bindings::last_with` ends: the number of bindings left falls.
use Rattle.reader.proofs.bindings.+last_with.Given as goal

abbrev pub decreases-last_with : goal.decreases-last_with
decreases-last_with l = l.left
