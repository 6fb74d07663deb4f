-- What the worked examples compute with, named once: to unfold `computing` is to unfold all that its line names. A definition.
use Rattle.std.specs.Prelude.{Bool, true}
use Rattle.laws.specs.Lists.{same_list, any, all, any_pair, keep, tabulate}
use Rattle.table.specs.Table.{uris_from, rules_of, taken_of, listed_from, class_of}
use Rattle.table.specs.Judge.{judged, uris_fill}

unfoldable pub computing : Bool
unfolding judged uris_fill uris_from rules_of taken_of listed_from class_of same_list any all any_pair keep tabulate
computing = true
