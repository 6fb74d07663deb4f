-- Worked examples of lists of host calls, in a slice of 7,300 bytes that held other things: sample A cut, with refused calls between the accepted ones; and
-- by a step and advances. By `told`, and by computation of the steps and advances.
use Prim.Native.Nat.{ℕ}
use mathlib.Core.Path.{◌≡◌, refl, ◌∙◌}
use mathlib.Core.List.{List, [], ◌∷◌, ◌++◌}
use native.Mathlib.Omega.{arith}
use lib.ListN.{take, replicate}
use Rattle.laws.specs.Text.{bytes}
use Rattle.table.specs.Examples.{T}
use Rattle.model.specs.Rows.{row}
use Rattle.demands.specs.Calls.{Call, of_step, of_advance}
use Rattle.demands.specs.Computing.{computing}
use Rattle.hosts.specs.Calls.{HostCall, host_fresh, host_steps, joined_by, AnyHostCall, host_calls, events_by, all_records_by}
use Rattle.hosts.proofs.HostCalls.{calls_told}
use Rattle.hosts.proofs.HostSteps.{told_fresh}

-- the first k bytes of the scene, with so much output
abbrev cut_at : ℕ → ℕ → Call
cut_at k room = record { scene = take k (bytes "<r xmlns=\"u\">a<x/></r>"); output = replicate room 7 }

abbrev answer : List ℕ
answer = replicate 4 7

abbrev step_at : ℕ → ℕ → HostCall
step_at k room = record { call = cut_at k room; answer = answer }

-- 25; the start; 1 behind the text; the text
abbrev calls : List HostCall
calls = step_at 13 31 ∷ step_at 13 32 ∷ step_at 14 64 ∷ step_at 15 64 ∷ []

abbrev slice : List ℕ
slice = replicate 7300 7

their_records : joined_by (host_steps T (host_fresh slice).session calls) ≡ row 0 0 0 0 0 0 0 ++ row 0 1 1 1 1 0 0 ++ row 0 4 0 13 1 0 0
unfolding computing
their_records = (told_fresh T slice (omega arith) calls).joined ∙ refl

-- the start, and 1 behind it; the text; the start of x, and 25 at its end; its end and that of r, and 9
abbrev mixed : List AnyHostCall
mixed =
    record { call = of_advance 9 (cut_at 13 64); answer = answer }
    ∷ record { call = of_step (cut_at 15 64); answer = answer }
    ∷ record { call = of_advance 9 (cut_at 22 16); answer = answer }
    ∷ record { call = of_advance 9 (cut_at 22 64); answer = answer }
    ∷ []

all_five : events_by (host_calls T (host_fresh slice).session mixed) ≡ 5
unfolding computing
all_five = (calls_told T slice (omega arith) mixed).events ∙ refl

all_seven : all_records_by (host_calls T (host_fresh slice).session mixed) ≡ row 0 0 0 0 0 0 0 ++ row 0 1 1 1 1 0 0 ++ row 0 4 0 13 1 0 0 ++ row 0 1 1 15 1 0 0 ++ row 0 5 1 15 1 0 0 ++ row 0 5 1 20 1 0 0 ++ row 0 6 0 0 0 0 0
unfolding computing
all_seven = (calls_told T slice (omega arith) mixed).records ∙ refl
