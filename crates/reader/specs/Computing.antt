-- What the worked examples compute with, named once. A definition.
use Rattle.std.specs.Prelude.{Bool, true}
use Rattle.laws.specs.Lists.{same_list, any, any_pair}
use Rattle.laws.specs.Gather.{gather}
use Rattle.lexer.specs.Computing as lexer
use Rattle.reader.specs.Spans.{kind_of}
use Rattle.reader.specs.Namespaces.{same_namespace, refused_binding, look_up, of_prefix, of_element, resolved, meaning_of}
use Rattle.reader.specs.Events.{bindings_of, colon_end, part_of, next, events_from, events, last_from, last_of}

unfoldable pub computing : Bool
unfolding last_of last_from events events_from next bindings_of colon_end part_of meaning_of resolved of_element of_prefix look_up same_namespace refused_binding kind_of same_list any any_pair gather lexer.computing
computing = true
