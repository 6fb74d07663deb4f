-- Worked examples of step, advance and run, by computation: the rulings on places, on 25 and on the limits of the state.
use Rattle.std.specs.Prelude.{ℕ, ◌≡◌, refl, [], ◌∷◌, ◌++◌, true, get_or, replicate}
use Rattle.std.proofs.Math.Option.{some}
use Rattle.laws.specs.Text.{bytes}
use Rattle.table.specs.Table.{standard, former}
use Rattle.table.specs.declared.Action.TheVariants.{Validate}
use Rattle.table.specs.Examples.{T, T2}
use Rattle.table.specs.Places.{places_from, place_of}
use Rattle.uris.specs.Uris.{stands, uri_span_of}
use Rattle.uris.specs.declared.Source.TheVariants.{Scene}
use Rattle.model.specs.DefaultExamples.{A5}
use Rattle.strands.specs.Packed.{packed}
use Rattle.sessions.specs.Sessions.{fresh_of}
use Rattle.sessions.specs.Stepping.{answered, refused_step, step_of, advance_of, run_of}
use Rattle.sessions.specs.Session.{Session}
use Rattle.sessions.specs.Computing.{computing}

-- The first step over sample A: its two records need 32 bytes
room_for_two : (step_of standard T (bytes "<r xmlns=\"u\">a<x/></r>") fresh_of (replicate 32 7)).answer ≡ answered 0 13 1 2
unfolding computing
room_for_two = refl

-- 25 field by field: nothing counted, the session and the output as they were
room_for_less_than_two : step_of standard T (bytes "<r xmlns=\"u\">a<x/></r>") fresh_of (replicate 31 7) ≡ record { answer = record { number = 25; place = 0; events = 0; records = 0 }; session = fresh_of; output = replicate 31 7 }
unfolding computing
room_for_less_than_two = refl

-- E5: 25 exactly when 16 × records exceeds the output
run_in_47 : (run_of standard T (bytes "<r xmlns=\"u\">a<x/></r>") (replicate 47 7)).answer ≡ answered 25 13 1 2
unfolding computing
run_in_47 = refl

run_in_48 : (run_of standard T (bytes "<r xmlns=\"u\">a<x/></r>") (replicate 48 7)).answer ≡ answered 25 14 2 3
unfolding computing
run_in_48 = refl

-- E7: at an end, 25 has the < of its tag
run_in_80 : (run_of standard T (bytes "<r xmlns=\"u\">a<x/></r>") (replicate 80 7)).answer ≡ answered 25 18 4 5
unfolding computing
run_in_80 = refl

-- E6: at the end of />, the place before the level's name
no_room_for_an_awaited_end : (step_of standard T (bytes "<r xmlns=\"u\"/>") (step_of standard T (bytes "<r xmlns=\"u\"/>") fresh_of (replicate 32 7)).session (replicate 31 7)).answer ≡ answered 25 0 0 0
unfolding computing
no_room_for_an_awaited_end = refl

-- E7: else the start's <
behind_space : (run_of standard T (bytes "  <r xmlns=\"u\"/>") []).answer ≡ answered 25 2 0 0
unfolding computing
behind_space = refl

-- F7: while the end of /> is awaited no byte is read
awaited_end_reads_nothing : (run_of standard T (bytes "<r/>" ++ (0x00 ∷ [])) (replicate 64 7)).answer ≡ answered 2 4 2 4
unfolding computing
awaited_end_reads_nothing = refl

-- E1, E2: 9 does not move the place
places : (step_of standard T (bytes "<r/>  ") (step_of standard T (bytes "<r/>  ") (step_of standard T (bytes "<r/>  ") fresh_of (replicate 32 7)).session (replicate 32 7)).session []).session.place ≡ 4
unfolding computing
places = refl

-- E4: an event without records needs no output
unwrapped_in_none : (run_of standard A5 (bytes "<r/>") []).answer ≡ answered 9 4 2 0
unfolding computing
unwrapped_in_none = refl

-- N3-11: behind a rejected start the session holds a validate strand: mode 0, opened here, of unit 0
rejected_strand : get_or (step_of standard T (bytes "<r/>") fresh_of (replicate 32 7)).session.strands 0 0 ≡ packed (record { mode = 0; action = Validate; target = some 0; here = true })
unfolding computing
rejected_strand = refl

-- N3-9: the URI of a reject unit's open is the empty part at the scene's start
rejected_uri : uri_span_of T (bytes "<r/>") 255 0 0 ≡ stands Scene 0 0
unfolding computing uri_span_of place_of places_from
rejected_uri = refl

-- a fresh session that has opened so many units
abbrev pub having : ℕ → Session
having units =
    record {
      place = fresh_of.place;
      units = units;
      closed = fresh_of.closed;
      awaited = fresh_of.awaited;
      scope = fresh_of.scope;
      spaces = fresh_of.spaces;
      strands = fresh_of.strands;
    }

-- N3-10: 24 at the < of a tag that is rejected, before 25 (F4), where a unit passes 65,535; before the request the tag opened none
unit_past_the_last : step_of standard T (bytes "  <r/>") (having 65536) [] ≡ refused_step 24 2 (having 65536) []
unfolding computing
unit_past_the_last = refl

last_unit : ((step_of standard T (bytes "  <r/>") (having 65535) (replicate 31 7)).answer ≡ answered 25 2 0 0) × ((step_of standard T (bytes "  <r/>") (having 65535) (replicate 32 7)).answer ≡ answered 0 6 1 2)
unfolding computing
last_unit = (refl, refl)

no_unit_before : (step_of former T (bytes "  <r/>") (having 65536) []).answer ≡ answered 0 6 1 0
unfolding computing
no_unit_before = refl

-- T2 with v and q alternating under a u root: the fourth v makes 16 strands, the fifth gives 23 at its <
sixteen_strands : (run_of standard T2 (bytes "<r xmlns=\"u\"><x xmlns=\"v\"><y xmlns=\"q\"><x xmlns=\"v\"><y xmlns=\"q\"><x xmlns=\"v\"><y xmlns=\"q\"><x xmlns=\"v\">") (replicate 1600 7)).answer.number ≡ 1
unfolding computing
sixteen_strands = refl

seventeen_strands : ((run_of standard T2 (bytes "<r xmlns=\"u\"><x xmlns=\"v\"><y xmlns=\"q\"><x xmlns=\"v\"><y xmlns=\"q\"><x xmlns=\"v\"><y xmlns=\"q\"><x xmlns=\"v\"><y xmlns=\"q\"><x xmlns=\"v\">") (replicate 1600 7)).answer.number ≡ 23) × ((run_of standard T2 (bytes "<r xmlns=\"u\"><x xmlns=\"v\"><y xmlns=\"q\"><x xmlns=\"v\"><y xmlns=\"q\"><x xmlns=\"v\"><y xmlns=\"q\"><x xmlns=\"v\"><y xmlns=\"q\"><x xmlns=\"v\">") (replicate 1600 7)).answer.place ≡ 117)
unfolding computing
seventeen_strands = (refl, refl)

-- a refused table goes before all else
refused_table_lem : step_of standard (1 ∷ []) (bytes "<") fresh_of [] ≡ refused_step 10 0 fresh_of []
unfolding computing
refused_table_lem = refl

-- no step is taken: nothing is judged, not even a table that is refused
advance_by_none : advance_of standard 0 (1 ∷ []) (bytes "<") fresh_of (7 ∷ []) ≡ record { answer = answered 0 0 0 0; session = fresh_of; output = 7 ∷ [] }
unfolding computing
advance_by_none = refl

-- so many steps were taken: 0, and the new session's place
advance_by_three : (advance_of standard 3 T (bytes "<r xmlns=\"u\">a<x/></r>") fresh_of (replicate 112 7)).answer ≡ answered 0 18 3 4
unfolding computing
advance_by_three = refl

-- and on from there
advance_on : (advance_of standard 9 T (bytes "<r xmlns=\"u\">a<x/></r>") (advance_of standard 3 T (bytes "<r xmlns=\"u\">a<x/></r>") fresh_of (replicate 112 7)).session (replicate 48 7)).answer ≡ answered 9 22 2 3
unfolding computing
advance_on = refl

-- an output that is full stops it: the session behind the events that were written
advance_in_47 : ((advance_of standard 9 T (bytes "<r xmlns=\"u\">a<x/></r>") fresh_of (replicate 47 7)).answer ≡ answered 25 13 1 2) × ((advance_of standard 9 T (bytes "<r xmlns=\"u\">a<x/></r>") fresh_of (replicate 47 7)).session.place ≡ 13)
unfolding computing
advance_in_47 = (refl, refl)
