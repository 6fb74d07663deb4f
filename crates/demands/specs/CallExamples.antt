-- Worked examples of lists of calls, by computation: sample A cut, with refused steps between the accepted ones; by steps and advances; and with commits.
use Rattle.std.specs.Prelude.{ℕ, ◌≡◌, refl, List, [], ◌∷◌, ◌++◌, map, take, replicate}
use Rattle.laws.specs.Text.{bytes}
use Rattle.table.specs.Examples.{T}
use Rattle.model.specs.Rows.{row}
use Rattle.sessions.specs.Sessions.{fresh_of}
use Rattle.sessions.specs.Stepping.{Step}
use Rattle.sessions.specs.Asking.{Offer}
use Rattle.model.specs.Dispatch.{expected}
use Rattle.table.specs.Table.{decode}
use Rattle.demands.specs.Calls.{Call, steps_from, accepted_in, joined_of, AnyCall, of_step, of_advance, calls_from, events_in, all_records}
use Rattle.demands.specs.Offers.{OfferedCall, of_call, of_commit, offered_from}
use Rattle.demands.specs.Computing.{computing}

abbrev A : List ℕ
A = bytes "<r xmlns=\"u\">a<x/></r>"

-- the first k bytes of the scene, with so much output
abbrev cut_at : ℕ → ℕ → Call
cut_at k room = record { scene = take k A; output = replicate room 7 }

-- 1 in a tag; 25; the start; 1 behind the text; the text; the start of x; 25 at its end; its end
abbrev calls : List Call
calls = cut_at 5 64 ∷ cut_at 13 31 ∷ cut_at 13 32 ∷ cut_at 14 64 ∷ cut_at 15 64 ∷ cut_at 20 64 ∷ cut_at 20 0 ∷ cut_at 22 16 ∷ []

four_accepted : accepted_in (steps_from T fresh_of calls) ≡ 4
unfolding computing
four_accepted = refl

their_records : joined_of (steps_from T fresh_of calls) ≡ row 0 0 0 0 0 0 0 ++ row 0 1 1 1 1 0 0 ++ row 0 4 0 13 1 0 0 ++ row 0 1 1 15 1 0 0 ++ row 0 5 1 15 1 0 0
unfolding computing
their_records = refl

the_models : expected (decode T) A 4 ≡ row 0 0 0 0 0 0 0 ++ row 0 1 1 1 1 0 0 ++ row 0 4 0 13 1 0 0 ++ row 0 1 1 15 1 0 0 ++ row 0 5 1 15 1 0 0
unfolding computing
the_models = refl

-- the start, and 1 behind it; none; the text; the start of x, and 25 at its end; its end and that of r
abbrev mixed : List AnyCall
mixed = of_advance 9 (cut_at 13 64) ∷ of_advance 0 (cut_at 14 64) ∷ of_step (cut_at 15 64) ∷ of_advance 9 (cut_at 22 16) ∷ of_advance 2 (cut_at 22 64) ∷ of_step (cut_at 22 64) ∷ []

their_numbers : map (λ (r : Step). r.answer.number) (calls_from T fresh_of mixed) ≡ 1 ∷ 0 ∷ 0 ∷ 25 ∷ 0 ∷ 9 ∷ []
unfolding computing
their_numbers = refl

all_five : events_in (calls_from T fresh_of mixed) ≡ 5
unfolding computing
all_five = refl

all_seven : all_records (calls_from T fresh_of mixed) ≡ row 0 0 0 0 0 0 0 ++ row 0 1 1 1 1 0 0 ++ row 0 4 0 13 1 0 0 ++ row 0 1 1 15 1 0 0 ++ row 0 5 1 15 1 0 0 ++ row 0 5 1 20 1 0 0 ++ row 0 6 0 0 0 0 0
unfolding computing
all_seven = refl

-- an offer of the fresh session and of the first k bytes of the scene
abbrev freshly : ℕ → Offer
freshly k = record { session = fresh_of; length = k }

-- 1 in a tag; 30, the scene has grown; the start; 30, the session is another; the text and the start of x, by a step each
abbrev held : List OfferedCall
held = of_commit (freshly 5) (cut_at 5 64) ∷ of_commit (freshly 5) (cut_at 13 64) ∷ of_commit (freshly 13) (cut_at 13 64) ∷ of_commit (freshly 15) (cut_at 15 64) ∷ of_call (of_step (cut_at 15 64)) ∷ of_call (of_step (cut_at 22 64)) ∷ []

held_numbers : map (λ (r : Step). r.answer.number) (offered_from T fresh_of held) ≡ 1 ∷ 30 ∷ 0 ∷ 30 ∷ 0 ∷ 0 ∷ []
unfolding computing
held_numbers = refl

held_records : all_records (offered_from T fresh_of held) ≡ row 0 0 0 0 0 0 0 ++ row 0 1 1 1 1 0 0 ++ row 0 4 0 13 1 0 0 ++ row 0 1 1 15 1 0 0
unfolding computing
held_records = refl
