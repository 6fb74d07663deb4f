-- Worked examples of ask and commit, by computation: vectors of the rulings on N6, under their names there. Two of them, V9 and V24, have a scene of
-- 16,777,216 bytes, and are not here.
use Rattle.std.specs.Prelude.{ℕ, ◌≡◌, refl, List, [], ◌∷◌, ◌++◌, true, false, replicate}
use Rattle.std.proofs.Math.Option.{some}
use Rattle.laws.specs.Text.{bytes}
use Rattle.laws.specs.Over.{overwrite}
use Rattle.table.specs.Table.{standard}
use Rattle.table.specs.declared.Action.TheVariants.{Validate}
use Rattle.table.specs.Examples.{T, T2}
use Rattle.model.specs.Rows.{row}
use Rattle.strands.specs.Packed.{packed}
use Rattle.sessions.specs.Sessions.{fresh_of}
use Rattle.sessions.specs.Stepping.{answered, refused_step, step_of, advance_of}
use Rattle.sessions.specs.Asking.{holds_same, Offer, offer_of, asked_as, ask_of, commit_of}
use Rattle.sessions.specs.StepExamples.{having}
use Rattle.sessions.specs.Session.{Session}
use Rattle.sessions.specs.Computing.{computing}

abbrev A : List ℕ
A = bytes "<r xmlns=\"u\">a<x/></r>"

-- "the session after K accepted steps from fresh of T over sample A"
abbrev after_steps : ℕ → Session
after_steps k = (advance_of standard k T A fresh_of (replicate 112 0)).session

abbrev refused_table : List ℕ
refused_table = 1 ∷ 2 ∷ 1 ∷ 1 ∷ 0 ∷ 6 ∷ 0 ∷ 8 ∷ 1 ∷ []

abbrev nested : List ℕ
nested = bytes "<r xmlns=\"u\"><x xmlns=\"v\"><x xmlns=\"q\"><x xmlns=\"v\"><x xmlns=\"q\"><x xmlns=\"v\"><x xmlns=\"q\"><x xmlns=\"v\"><x xmlns=\"q\"><x xmlns=\"v\">"

-- a fresh session at another place
abbrev at_place : ℕ → Session
at_place place =
    record {
      place = place;
      units = fresh_of.units;
      closed = fresh_of.closed;
      awaited = fresh_of.awaited;
      scope = fresh_of.scope;
      spaces = fresh_of.spaces;
      strands = fresh_of.strands;
    }

-- a session with other strands
abbrev with_strands : Session → List ℕ → Session
with_strands z strands =
    record {
      place = z.place;
      units = z.units;
      closed = z.closed;
      awaited = z.awaited;
      scope = z.scope;
      spaces = z.spaces;
      strands = strands;
    }

abbrev offering : Session → ℕ → Offer
offering z n = record { session = z; length = n }

-- ---- ask
-- "Each offer of an ask is (the session given, the scene's length)"
abbrev gives : List ℕ → Session → List ℕ → ℕ → ℕ → ℕ → Type 0
gives table z s n p records = ask_of standard table s z ≡ asked_as (answered n p 0 records) (offer_of z s)

-- the first event of A
v1 : gives T fresh_of A 0 13 2
unfolding computing
v1 = refl

-- a text
v2 : gives T (after_steps 1) A 0 14 1
unfolding computing
v2 = refl

-- an awaited end
v3 : gives T (after_steps 3) A 0 18 1
unfolding computing
v3 = refl

-- finished
v4 : gives T (after_steps 5) A 9 22 0
unfolding computing
v4 = refl

-- nothing there
v5 : gives T fresh_of [] 1 0 0
unfolding computing
v5 = refl

-- a byte that cannot stand
v6 : gives T fresh_of (0x00 ∷ []) 2 0 0
unfolding computing
v6 = refl

-- a reject unit is counted
v7 : gives T fresh_of (bytes "<r/>") 0 4 2
unfolding computing
v7 = refl

-- a refused table: an offer all the same
v8 : gives refused_table fresh_of A 10 0 0
unfolding computing
v8 = refl

-- the session's place lies outside
v10 : gives T (after_steps 1) (bytes "<r/>") 20 0 0
unfolding computing
v10 = refl

-- a limit of the step
v11 : gives T2 (advance_of standard 9 T2 nested fresh_of (replicate 1600 0)).session nested 23 117 0
unfolding computing
v11 = refl

-- no unit left
v12 : gives T (having 65536) (bytes "<r/>") 24 0 0
unfolding computing
v12 = refl

-- ---- commit
-- the first two records of A
abbrev first_two : List ℕ
first_two = row 0 0 0 0 0 0 0 ++ row 0 1 1 1 1 0 0

abbrev ee : ℕ → List ℕ
ee n = replicate n 0xEE

-- as asked, output exact
v13 : commit_of standard (offering fresh_of 22) fresh_of T A (ee 32) ≡ record { answer = answered 0 13 1 2; session = after_steps 1; output = first_two ++ ee 0 }
unfolding computing
v13 = refl

-- bytes past the records are kept
v14 : commit_of standard (offering fresh_of 22) fresh_of T A (ee 37) ≡ record { answer = answered 0 13 1 2; session = after_steps 1; output = first_two ++ ee 5 }
unfolding computing
v14 = refl

-- output one byte short: 25, not 30
v15 : commit_of standard (offering fresh_of 22) fresh_of T A (ee 31) ≡ refused_step 25 0 fresh_of (ee 31)
unfolding computing
v15 = refl

-- another session
v16 : commit_of standard (offering fresh_of 22) (after_steps 1) T A (ee 64) ≡ refused_step 30 0 (after_steps 1) (ee 64)
unfolding computing
v16 = refl

-- a longer scene
v17 : commit_of standard (offering fresh_of 22) fresh_of T (A ++ (0x20 ∷ [])) (ee 64) ≡ refused_step 30 0 fresh_of (ee 64)
unfolding computing
v17 = refl

-- another length in the offer
v18 : commit_of standard (offering fresh_of 21) fresh_of T A (ee 64) ≡ refused_step 30 0 fresh_of (ee 64)
unfolding computing
v18 = refl

-- sessions that differ in one strand's opened-here
v19 : commit_of standard (offering (with_strands (after_steps 1) (overwrite (after_steps 1).strands 0 (packed (record { mode = 1; action = Validate; target = some 0; here = false }) ∷ []))) 22) (after_steps 1) T A (ee 64) ≡ refused_step 30 0 (after_steps 1) (ee 64)
unfolding computing
v19 = refl

-- other bytes, same length: not noticed
v20 : commit_of standard (offering fresh_of 22) fresh_of T (replicate 22 0) (ee 64) ≡ refused_step 2 0 fresh_of (ee 64)
unfolding computing
v20 = refl

-- another table: not noticed, a step with it
v21 : commit_of standard (offering fresh_of 22) fresh_of T2 A (ee 64) ≡ record { answer = answered 0 13 1 2; session = (step_of standard T2 A fresh_of (ee 64)).session; output = first_two ++ ee 32 }
unfolding computing
v21 = refl

-- finished
v22 : (commit_of standard (offering (after_steps 5) 22) (after_steps 5) T A (ee 0)).answer ≡ answered 9 22 0 0
unfolding computing
v22 = refl

-- 10 before 30
v23 : commit_of standard (offering fresh_of 22) (after_steps 1) refused_table A (ee 64) ≡ refused_step 10 0 (after_steps 1) (ee 64)
unfolding computing
v23 = refl

-- 20 before 30
v25 : commit_of standard (offering fresh_of 22) (after_steps 1) T (bytes "<r/>") (ee 64) ≡ refused_step 20 0 (after_steps 1) (ee 64)
unfolding computing
v25 = refl

-- equal to the offer's, but not coherent
v26 : commit_of standard (offering (at_place 99) 22) (at_place 99) T A (ee 64) ≡ refused_step 20 0 (at_place 99) (ee 64)
unfolding computing
v26 = refl

-- the offer's session is compared, not judged
v27 : commit_of standard (offering (at_place 99) 22) fresh_of T A (ee 64) ≡ refused_step 30 0 fresh_of (ee 64)
unfolding computing
v27 = refl

-- 30 before reading
v28 : commit_of standard (offering fresh_of 22) fresh_of T (0x00 ∷ []) (ee 64) ≡ refused_step 30 0 fresh_of (ee 64)
unfolding computing
v28 = refl

-- 30 before an awaited end
v29 : (commit_of standard (offering (after_steps 3) 23) (after_steps 3) T A (ee 64)).answer ≡ answered 30 0 0 0
unfolding computing
v29 = refl

-- ---- what sessions hold
-- N6-4: the strand of after_steps 1, with opened-here as it is: v19 is about that alone
unaltered : holds_same (after_steps 1) (with_strands (after_steps 1) (overwrite (after_steps 1).strands 0 (packed (record { mode = 1; action = Validate; target = some 0; here = true }) ∷ []))) ≡ true
unfolding computing
unaltered = refl

-- "array places past the counts" do not count: behind the end of x its level's numbers stay
past_the_counts : (holds_same (after_steps 4) (with_strands (after_steps 4) (overwrite (after_steps 4).strands 16 (1 ∷ 2 ∷ 3 ∷ []))) ≡ true) × (holds_same (after_steps 3) (with_strands (after_steps 3) (overwrite (after_steps 3).strands 16 (1 ∷ []))) ≡ false)
unfolding computing
past_the_counts = (refl, refl)

-- "a number stored where there is no target" does not count: 33 is mode 1, unwrap, no target; 3617 the same with 7 in the target's bits; 289 and 3873 have
-- a target, 0 and 7
no_target : (holds_same (with_strands (after_steps 1) (overwrite (after_steps 1).strands 0 (33 ∷ []))) (with_strands (after_steps 1) (overwrite (after_steps 1).strands 0 (3617 ∷ []))) ≡ true) × (holds_same (with_strands (after_steps 1) (overwrite (after_steps 1).strands 0 (289 ∷ []))) (with_strands (after_steps 1) (overwrite (after_steps 1).strands 0 (3873 ∷ []))) ≡ false)
unfolding computing
no_target = (refl, refl)
