-- Worked examples of runs and steps over scenes with comments, instructions and a declaration, by computation: vectors of request N1.
use Rattle.std.specs.Prelude.{ℕ, ◌≡◌, refl, List, [], ◌∷◌, map, replicate}
use Rattle.laws.specs.Text.{bytes}
use Rattle.table.specs.Table.{standard}
use Rattle.table.specs.Examples.{T}
use Rattle.reader.specs.Events.{fresh_reader}
use Rattle.model.specs.Rows.{row}
use Rattle.sessions.specs.Sessions.{fresh_of}
use Rattle.sessions.specs.Stepping.{Step, answered, run_of}
use Rattle.table.specs.declared.Answer.{Answer}
use Rattle.demands.specs.Answers.{settled}
use Rattle.demands.specs.Calls.{Call, steps_from}
use Rattle.demands.specs.Scenes.{reader_after}
use Rattle.demands.specs.Samples.{sample_output, sample_run}
use Rattle.demands.specs.Computing.{computing}

-- a table that keeps all in unit 0: mode 0 any element validate 0, next 1; mode 1 any element attach, next 1; mode 1 any attribute attach
abbrev pub K : List ℕ
K = 0x00 ∷ 0x02 ∷ 0x01 ∷ 0x03 ∷ 0x03 ∷ 0xFE ∷ 0x00 ∷ 0x08 ∷ 0x0B ∷ 0xFC ∷ 0x00 ∷ 0x08 ∷ 0x0F ∷ 0xFC ∷ 0x00 ∷ 0x08 ∷ []

-- N1-1, N1-3: in every position; the records are as if none were there, texts apart
text_apart : run_of standard T (bytes "<r xmlns=\"u\">a<!--x-->b<?p?><?q?>c<!----></r>") sample_output ≡ sample_run 9 45 5 (row 0 0 0 0 0 0 0 ∷ row 0 1 1 1 1 0 0 ∷ row 0 4 0 13 1 0 0 ∷ row 0 4 0 22 1 0 0 ∷ row 0 4 0 33 1 0 0 ∷ row 0 5 1 43 1 0 0 ∷ row 0 6 0 0 0 0 0 ∷ [])
unfolding computing
text_apart = refl

space_apart : run_of standard K (bytes "<r> <!----> </r>") sample_output ≡ sample_run 9 16 4 (row 0 0 0 0 0 0 0 ∷ row 0 1 0 1 1 0 0 ∷ row 0 4 0 3 1 0 0 ∷ row 0 4 0 11 1 0 0 ∷ row 0 5 0 14 1 0 0 ∷ row 0 6 0 0 0 0 0 ∷ [])
unfolding computing
space_apart = refl

-- how many bytes behind a refused one settle its refusal, behind so many events of a scene: of a target xml three, of ]]> in text two
abbrev settled_behind : ℕ → List ℕ → ℕ → ℕ
settled_behind k s p = settled s (reader_after k s fresh_reader) p

settles :
    (settled_behind 1 (bytes "<r><?xml?") 5 ≡ 3)
    × (settled_behind 0 (bytes " <?XmL?") 3 ≡ 3)
    × (settled_behind 1 (bytes "<r>a]]>") 4 ≡ 2)
    × (settled_behind 1 (bytes "<r><!---->]]>") 10 ≡ 2)
    × (settled_behind 0 (bytes "<r/x") 3 ≡ 0)
    × (settled_behind 1 (bytes "<r>]]<") 3 ≡ 0)
unfolding computing
settles = (refl, refl, refl, refl, refl, refl)

-- the answer of a run with so much output
abbrev run_of_lem : List ℕ → ℕ → List ℕ → Answer
run_of_lem table room scene = (run_of standard table scene (replicate room 7)).answer

-- N1-4: 25 stands at the event's own first byte; N1-5: 9 and 1; N1-2, N1-7 to N1-10, N1-21: 2 and 1
answers :
    (run_of_lem T 32 (bytes "<r xmlns=\"u\"><!--x-->b</r>") ≡ answered 25 21 1 2)
    × (run_of_lem T 48 (bytes "<r xmlns=\"u\"><!--x-->b</r>") ≡ answered 25 22 2 3)
    × (run_of_lem K 31 (bytes "<!----><r/>") ≡ answered 25 7 0 0)
    × (run_of_lem K 320 (bytes "<?xml version='1.0'?><r/><!--a--> <?b?> ") ≡ answered 9 40 2 4)
    × (run_of_lem K 320 (bytes "<r/><?p") ≡ answered 1 7 2 4)
    × (run_of_lem K 320 (bytes " <!----> ") ≡ answered 1 9 0 0)
    × (run_of_lem K 320 (bytes "<r>a<!") ≡ answered 1 6 2 3)
    × (run_of_lem K 320 (bytes "<r>a<!x") ≡ answered 2 6 2 3)
    × (run_of_lem K 320 (bytes "<r/><s/>") ≡ answered 2 5 2 4)
    × (run_of_lem K 320 (bytes "<r <!---->/>") ≡ answered 2 3 0 0)
    × (run_of_lem K 320 (bytes "<r>&quot;]]></r>") ≡ answered 2 9 1 2)
unfolding computing
answers = (refl, refl, refl, refl, refl, refl, refl, refl, refl, refl, refl)

-- the same bytes where no target and no text is meant: the first of them is refused at once
at_once :
    (settled_behind 2 (bytes "<r/>xml") 4 ≡ 0)
    × (settled_behind 1 (bytes "<r>&xml;") 4 ≡ 0)
    × (settled_behind 0 (bytes "<!xml") 2 ≡ 0)
    × (settled_behind 0 (bytes "<r ]]>") 3 ≡ 0)
    × (settled_behind 2 (bytes "<r/>]]>") 4 ≡ 0)
    × (run_of_lem K 320 (bytes "<r/>x") ≡ answered 2 4 2 4)
    × (run_of_lem K 320 (bytes "<r>&x") ≡ answered 2 4 1 2)
    × (run_of_lem K 320 (bytes "<!x") ≡ answered 2 2 0 0)
    × (run_of_lem K 320 (bytes "<r ]") ≡ answered 2 3 0 0)
    × (run_of_lem K 320 (bytes "<r/>]") ≡ answered 2 4 2 4)
unfolding computing
at_once = (refl, refl, refl, refl, refl, refl, refl, refl, refl, refl)

-- two at most: a reference broken off
at_most : (settled_behind 1 (bytes "<r>&]]>") 4 ≡ 2) × (run_of_lem K 320 (bytes "<r>&]") ≡ answered 2 4 1 2)
unfolding computing
at_most = (refl, refl)

-- the numbers and places of steps over these scenes in turn
abbrev pub numbers_of : List Step → List (ℕ × ℕ)
numbers_of rs = map (λ (r : Step). (r.answer.number, r.answer.place)) rs

abbrev pub over : List (List ℕ) → List Call
over scenes = map (λ (scene : List ℕ). record { scene = scene; output = replicate 64 7 }) scenes

-- N1-1: after a text the place is at the < of the misc, after a tag behind its >
abbrev A : List ℕ
A = bytes "<r xmlns=\"u\">a<!--x-->b</r>"

places : numbers_of (steps_from T fresh_of (over (A ∷ A ∷ A ∷ A ∷ A ∷ []))) ≡ (0, 13) ∷ (0, 14) ∷ (0, 23) ∷ (0, 27) ∷ (9, 27) ∷ []
unfolding computing
places = refl

-- N1-6: the end of /> is awaited, no byte is read
abbrev B : List ℕ
B = bytes "<?xml version='1.0'?> <r/><!--c--> "

empty_places : numbers_of (steps_from K fresh_of (over (B ∷ B ∷ B ∷ []))) ≡ (0, 26) ∷ (0, 26) ∷ (9, 35) ∷ []
unfolding computing
empty_places = refl

-- N1-2, N1-5, N1-17, N1-21: scenes that grow
grown :
    (numbers_of (steps_from K fresh_of (over (bytes "<r>a" ∷ bytes "<r>a" ∷ bytes "<r>a<" ∷ bytes "<r>a<!--c-" ∷ bytes "<r>a<!--c-->" ∷ bytes "<r>a<!--c-->b</r>" ∷ []))) ≡ (0, 3) ∷ (1, 4) ∷ (0, 4) ∷ (1, 10) ∷ (1, 12) ∷ (0, 13) ∷ [])
    × (numbers_of (steps_from K fresh_of (over (bytes "<r>]]" ∷ bytes "<r>]]" ∷ bytes "<r>]]>" ∷ bytes "<r>]]<" ∷ []))) ≡ (0, 3) ∷ (1, 5) ∷ (2, 3) ∷ (0, 5) ∷ [])
    × (numbers_of (steps_from K fresh_of (over (bytes "<r/>" ∷ bytes "<r/>" ∷ bytes "<r/>" ∷ bytes "<r/><!--" ∷ bytes "<r/><!---->" ∷ bytes "<r/><!----><?p?>x" ∷ []))) ≡ (0, 4) ∷ (0, 4) ∷ (9, 4) ∷ (1, 8) ∷ (9, 11) ∷ (2, 16) ∷ [])
    × (numbers_of (steps_from K fresh_of (over (bytes "<r><?xml" ∷ bytes "<r><?xml" ∷ bytes "<r><?xml?" ∷ bytes "<r><?xml-" ∷ bytes "<r><?xml-?></r>" ∷ []))) ≡ (0, 3) ∷ (1, 8) ∷ (2, 5) ∷ (1, 9) ∷ (0, 15) ∷ [])
unfolding computing
grown = (refl, refl, refl, refl)
