-- `reader::bindings::last_key_from` ends: the number of keys left falls.
use Rattle.reader.proofs.bindings.+last_key_from.Given as goal

abbrev pub decreases-last_key_from : goal.decreases-last_key_from
decreases-last_key_from l = l.left
