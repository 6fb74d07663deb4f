-- N2: "The four figures, with number and place, must equal those of a run with an output that suffices, up to where it stops": the strands and the depth of
-- the sessions that a run goes through. Definitions.
use Rattle.std.specs.Prelude.{ℕ, ◌+◌, ◌*◌, List, length}
use Rattle.table.specs.Table.{standard}
use Rattle.sessions.specs.Sessions.{fresh_of, strand_count}
use Rattle.sessions.specs.Stepping.{advance_of}
use Rattle.sessions.specs.Session.{Session}
use Rattle.forecast.specs.Forecasts.{greatest}

-- the session behind so many steps of a run; where it has stopped, that behind its last
abbrev pub run_session : List ℕ → List ℕ → List ℕ → ℕ → Session
run_session table s out j = (advance_of standard j table s fresh_of out).session

-- of the session before and of those behind each of a run's 2 * length s + 2 steps: the most strands of an open level, and the most levels open
abbrev pub run_strands : List ℕ → List ℕ → List ℕ → ℕ
run_strands table s out = greatest (λ (j : ℕ). greatest (strand_count (run_session table s out j)) (run_session table s out j).scope.depth) (2 * length s + 3)

abbrev pub run_depth : List ℕ → List ℕ → List ℕ → ℕ
run_depth table s out = greatest (λ (j : ℕ). (run_session table s out j).scope.depth) (2 * length s + 3)
