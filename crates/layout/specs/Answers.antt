-- What the calls for hosts tell and store, and what they answer where there is no session. Definitions.
use Rattle.std.specs.Prelude.{ℕ, List, [], ◌∷◌, cond, not, length, eqb, ltb}
use Rattle.laws.specs.Over.{overwrite}
use Rattle.table.specs.Judge.{judged}
use Rattle.table.specs.declared.Answer.{Answer}
use Rattle.sessions.specs.Stepping.{Step, refused_step, longest}
use Rattle.layout.specs.Layout.{session_in, session_bytes}

-- number, place, events, records
abbrev pub answer_numbers : Answer → List ℕ
answer_numbers a = a.number ∷ a.place ∷ a.events ∷ a.records ∷ []

-- what bytes that hold no session are answered: 20, in 20's rank
abbrev pub unheld : List ℕ → List ℕ → List ℕ → List ℕ → Step
unheld table s b out =
    cond (not (eqb (judged table).number 0)) (refused_step (judged table).number (judged table).place (session_in b) out)
    (cond (ltb longest (length s)) (refused_step 7 0 (session_in b) out) (refused_step 20 0 (session_in b) out))

-- the bytes behind steps: those of the session handed back where a step gave 0, whatever number came last; further bytes as they were
abbrev pub bytes_behind : List ℕ → Step → List ℕ
bytes_behind b r = cond (eqb r.answer.events 0) b (overwrite b 0 (session_bytes r.session))

-- a session slice that is too short
abbrev pub too_short : ℕ
too_short = 255
