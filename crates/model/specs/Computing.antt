-- What the worked examples compute with, named once. A definition.
use Rattle.std.specs.Prelude.{Bool, true}
use Rattle.laws.specs.Gather.{total}
use Rattle.table.specs.Computing as table
use Rattle.reader.specs.Computing as reader
use Rattle.model.specs.Model.{model, cells}
use Rattle.model.specs.Stream.{written, after, stream_from, stream_of}
use Rattle.model.specs.Elements.{space_of, attribute_of, element_of}
use Rattle.model.specs.Groups.{grouped, groups_from, groups_of, attribute_units, kept, start_bodies}
use Rattle.model.specs.Records.{record_bytes}
use Rattle.model.specs.Dispatch.{joined_bytes, expected}

unfoldable pub computing : Bool
unfolding table.computing reader.computing expected joined_bytes model cells stream_of stream_from written after record_bytes attribute_units start_bodies kept grouped groups_from groups_of space_of attribute_of element_of total
computing = true
