-- Worked examples of limits, by computation: T2 with v and q alternating under a u root, "the fourth v makes 16 strands, the fifth gives 23"; 25 where
-- request N3 has records; "22 a 65th open binding".
use Rattle.std.specs.Prelude.{ℕ, ◌≡◌, refl, List, [], ◌∷◌, true, false, replicate}
use Rattle.std.proofs.Math.Option.{some}
use Rattle.laws.specs.Text.{bytes}
use Rattle.table.specs.Table.{standard, former, decode}
use Rattle.table.specs.declared.Action.TheVariants.{Validate}
use Rattle.table.specs.declared.Answer.{Answer}
use Rattle.table.specs.Examples.{T, T2}
use Rattle.strands.specs.Packed.{packed}
use Rattle.sessions.specs.Sessions.{session_of}
use Rattle.sessions.specs.Stepping.{answered, refused_step, step_of, run_of}
use Rattle.sessions.specs.Session.{Session}
use Rattle.demands.specs.Limits.{passed, run_end}
use Rattle.demands.specs.Computing.{computing}

-- the fourth v is event 7, the fifth event 9
abbrev nested : List ℕ
nested = bytes "<r xmlns=\"u\"><x xmlns=\"v\"><y xmlns=\"q\"><x xmlns=\"v\"><y xmlns=\"q\"><x xmlns=\"v\"><y xmlns=\"q\"><x xmlns=\"v\"><y xmlns=\"q\"><x xmlns=\"v\">"

sixteen_pass : passed (decode T2) nested 7 ≡ 0
unfolding computing
sixteen_pass = refl

fifth_refused : run_end (decode T2) nested ≡ record { number = 23; place = 117 }
unfolding computing
fifth_refused = refl

-- N3-10: the start and the end of a rejected element have two records each
abbrev run_in : ℕ → Answer
run_in room = (run_of standard T (bytes "<r/>") (replicate room 7)).answer

room_for_rejected : (run_in 31 ≡ answered 25 0 0 0) × (run_in 32 ≡ answered 25 0 1 2) × (run_in 63 ≡ answered 25 0 1 2) × (run_in 64 ≡ answered 9 4 2 4)
unfolding computing
room_for_rejected = (refl, refl, refl, refl)

-- before the request they had none
room_before : (run_of former T (bytes "<r/>") []).answer ≡ answered 9 4 2 0
unfolding computing
room_before = refl

-- <r> is open, and so many times xmlns="" with it; the next tag declares one more
abbrev declaring : ℕ → Session
declaring n =
    session_of (record { place = 3; units = 1; closed = false; awaited = false; depth = 1; bound = n }) (1 ∷ 1 ∷ n ∷ replicate 189 0) (replicate 256 0)
    (0 ∷ 0 ∷ 0 ∷ 1 ∷ replicate 252 0) (packed (record { mode = 0; action = Validate; target = some 0; here = true }) ∷ replicate 1023 0)

sixty_fourth : (step_of standard T (bytes "<r><x xmlns=''>") (declaring 63) (replicate 16 7)).answer ≡ answered 0 15 1 1
unfolding computing
sixty_fourth = refl

sixty_fifth : step_of standard T (bytes "<r><x xmlns=''>") (declaring 64) (replicate 16 7) ≡ refused_step 22 3 (declaring 64) (replicate 16 7)
unfolding computing
sixty_fifth = refl
