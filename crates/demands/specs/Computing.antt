-- What the worked examples compute with, named once. A definition.
use Rattle.std.specs.Prelude.{Bool, true}
use Rattle.sessions.specs.Computing as dispatcher
use Rattle.demands.specs.Answers.{settled}
use Rattle.demands.specs.Calls.{steps_from, joined_of, calls_from, events_in, all_records}
use Rattle.demands.specs.Offers.{offered_from}
use Rattle.demands.specs.Scenes.{reader_after}
use Rattle.demands.specs.Limits.{passed, first_past, run_end}

unfoldable pub computing : Bool
unfolding dispatcher.computing settled steps_from joined_of calls_from offered_from events_in all_records reader_after passed first_past run_end
computing = true
