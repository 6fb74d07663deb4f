-- What the calls for hosts hand back, for all arguments. Definitions.
use Rattle.std.specs.Prelude.{ℕ, List, cond}
use Rattle.table.specs.Table.{standard}
use Rattle.sessions.specs.Stepping.{Step, step_of, advance_of}
use Rattle.layout.specs.Layout.{session_in, holds_session}
use Rattle.layout.specs.Answers.{unheld}

-- a step from a session in bytes
unfoldable pub byte_step : List ℕ → List ℕ → List ℕ → List ℕ → Step
byte_step table s b out = cond (holds_session b) (step_of standard table s (session_in b) out) (unheld table s b out)

-- so many steps from it. Where no step is asked for, bytes that hold no session are answered so too: there is no session whose place could be answered
unfoldable pub byte_advance : ℕ → List ℕ → List ℕ → List ℕ → List ℕ → Step
byte_advance most table s b out = cond (holds_session b) (advance_of standard most table s (session_in b) out) (unheld table s b out)
