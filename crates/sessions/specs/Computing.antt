-- What the worked examples compute with, named once. A definition.
use Rattle.std.specs.Prelude.{Bool, true}
use Rattle.laws.specs.Over.{overwrite}
use Rattle.lexer.specs.Whole.{is_part, is_whole_name}
use Rattle.reader.specs.Stored.{binding_in}
use Rattle.reader.specs.Scope.{name_in, opens_in, closed_of}
use Rattle.model.specs.Computing as model
use Rattle.strands.specs.Packed.{strand_in, packed}
use Rattle.sessions.specs.Sessions.{level_uri, strands_in, level_in, levels_in}
use Rattle.sessions.specs.Coherence.{coherent}
use Rattle.equality.specs.Same.{same_each, held_level}
use Rattle.sessions.specs.Stepping.{plan_of, start_plan, step_of, advance_of, run_of}
use Rattle.sessions.specs.Asking.{holds_same, judged_first}

unfoldable pub computing : Bool
unfolding model.computing judged_first holds_same same_each held_level run_of advance_of step_of plan_of start_plan coherent strand_in packed level_uri strands_in level_in levels_in binding_in name_in opens_in closed_of overwrite is_part is_whole_name
computing = true
