-- 'For demand 3': calls of step, each on the session that the one before handed back; their scenes, and the records that they hand out; the same for calls
-- of step and of advance. Definitions.
use Rattle.std.specs.Prelude.{ℕ, ◌*◌, ◌≡◌, List, [], ◌∷◌, ◌++◌, Bool, length, take, eqb}
use Rattle.laws.specs.Lists.{keep}
use Rattle.laws.specs.Gather.{gather, total}
use Rattle.table.specs.Table.{standard}
use Rattle.sessions.specs.Stepping.{Step, step_of, advance_of}
use Rattle.sessions.specs.Session.{Session}

-- A call: its scene and its output
pub record Call : Type 0 where
  pub scene : List ℕ
  pub output : List ℕ

-- each scene begins with the one before
abbrev pub BeginsWith : List ℕ → List ℕ → Type 0
BeginsWith s first = (rest : List ℕ) × (s ≡ first ++ rest)

abbrev pub GrowingFrom : List ℕ → List Call → Type 0
GrowingFrom before [] = Unit {0}
GrowingFrom before (c ∷ cs) = BeginsWith c.scene before × GrowingFrom c.scene cs

abbrev pub Growing : List Call → Type 0
Growing [] = Unit {0}
Growing (c ∷ cs) = GrowingFrom c.scene cs

-- the last call's scene; the empty one where there is no call
abbrev pub last_scene_from : List ℕ → List Call → List ℕ
last_scene_from before [] = before
last_scene_from before (c ∷ cs) = last_scene_from c.scene cs

abbrev pub last_scene : List Call → List ℕ
last_scene cs = last_scene_from [] cs

-- what the calls hand back: each steps the session that the one before handed back
unfoldable pub steps_from : List ℕ → Session → List Call → List Step
steps_from table z [] = []
steps_from table z (c ∷ cs) =
    let r = step_of standard table c.scene z c.output in
    r ∷ steps_from table r.session cs

-- "an accepted step is one that gives 0"
abbrev pub is_accepted : Step → Bool
is_accepted r = eqb r.answer.number 0

abbrev pub accepted_in : List Step → ℕ
accepted_in rs = length (keep is_accepted rs)

-- "Its records are the first bytes of its output, 16 for each record that it counts, as it hands them back"
abbrev pub records_of : Step → List ℕ
records_of r = take (16 * r.answer.records) r.output

-- "joined is in the list's order"
unfoldable pub joined_of : List Step → List ℕ
joined_of rs = gather records_of (keep is_accepted rs)

-- the last step's number; 0 where there is no step
abbrev pub number_from : ℕ → List Step → ℕ
number_from before [] = before
number_from before (r ∷ rs) = number_from r.answer.number rs

abbrev pub last_number : List Step → ℕ
last_number rs = number_from 0 rs

-- ---- step and advance
-- A call of step, or of advance by at most so many steps
pub data AnyCall : Type 0 where
  of_step : Call → AnyCall
  of_advance : ℕ → Call → AnyCall

abbrev pub call_of : AnyCall → Call
call_of (of_step c) = c
call_of (of_advance most c) = c

-- what it hands back of a session
abbrev pub handed_back : List ℕ → Session → AnyCall → Step
handed_back table z (of_step c) = step_of standard table c.scene z c.output
handed_back table z (of_advance most c) = advance_of standard most table c.scene z c.output

-- what the calls hand back: each goes on from the session that the one before handed back
unfoldable pub calls_from : List ℕ → Session → List AnyCall → List Step
calls_from table z [] = []
calls_from table z (c ∷ cs) =
    let r = handed_back table z c in
    r ∷ calls_from table r.session cs

-- the session that the last call hands back; the one before where there is no call
abbrev pub session_after : List ℕ → Session → List AnyCall → Session
session_after table z [] = z
session_after table z (c ∷ cs) = session_after table (handed_back table z c).session cs

-- "events (steps that gave 0)": of all calls
unfoldable pub events_in : List Step → ℕ
events_in rs = total (λ (r : Step). r.answer.events) rs

-- the records of all calls, "joined is in the list's order": an advance that ends with another number than 0 has those of its steps before
unfoldable pub all_records : List Step → List ℕ
all_records rs = gather records_of rs
