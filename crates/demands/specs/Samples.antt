-- Samples A to H of document 01, C as request N3 has it, as statements about what a run hands back. Definitions.
use Rattle.std.specs.Prelude.{ℕ, ◌+◌, ◌*◌, ◌≡◌, List, [], ◌∷◌, ◌++◌, length, drop, replicate}
use Rattle.laws.specs.Text.{bytes}
use Rattle.table.specs.Table.{standard}
use Rattle.table.specs.Examples.{T, T2}
use Rattle.model.specs.Rows.{row}
use Rattle.sessions.specs.Stepping.{Run, run_of}
use Rattle.laws.specs.Gather.{gather}

-- room for 20 records
abbrev pub sample_output : List ℕ
sample_output = replicate 320 7

-- a run's answer, field by field, and its output: the records, and the bytes past them as they were
abbrev pub sample_run : ℕ → ℕ → ℕ → List (List ℕ) → Run
sample_run number place events rows =
    record {
      answer = record { number = number; place = place; events = events; records = length rows };
      output = gather (λ r. r) rows ++ drop (16 * length rows) sample_output;
    }

-- Sample A
abbrev pub SampleA : Type 0
SampleA = run_of standard T (bytes "<r xmlns=\"u\">a<x/></r>") sample_output ≡ sample_run 9 22 5 (row 0 0 0 0 0 0 0 ∷ row 0 1 1 1 1 0 0 ∷ row 0 4 0 13 1 0 0 ∷ row 0 1 1 15 1 0 0 ∷ row 0 5 1 15 1 0 0 ∷ row 0 5 1 20 1 0 0 ∷ row 0 6 0 0 0 0 0 ∷ [])

-- Sample B: the empty scene
abbrev pub SampleB : Type 0
SampleB = run_of standard T [] sample_output ≡ sample_run 1 0 0 []

-- Sample C, with N3: "four records: open, start, end, close"
abbrev pub SampleC : Type 0
SampleC = run_of standard T (bytes "<r/>") sample_output ≡ sample_run 9 4 2 (row 0 0 255 0 0 0 0 ∷ row 0 1 0 1 1 0 0 ∷ row 0 5 0 1 1 0 0 ∷ row 0 6 0 0 0 0 0 ∷ [])

-- Sample D
abbrev pub SampleD : Type 0
SampleD = run_of standard T2 (bytes "<r xmlns=\"u\"><x xmlns=\"v\"/></r>") sample_output ≡ sample_run 9 31 4 (row 0 0 0 0 0 0 0 ∷ row 0 1 1 1 1 0 0 ∷ row 1 0 1 13 0 0 0 ∷ row 1 1 2 14 1 0 0 ∷ row 0 1 2 14 1 0 0 ∷ row 1 5 2 14 1 0 0 ∷ row 1 6 0 0 0 0 0 ∷ row 0 5 2 14 1 0 0 ∷ row 0 5 1 29 1 0 0 ∷ row 0 6 0 0 0 0 0 ∷ [])

-- Sample E
abbrev pub SampleE : Type 0
SampleE = run_of standard T2 (bytes "<r xmlns=\"u\">a<w xmlns=\"q\">b<x xmlns=\"v\"/></w>c</r>") sample_output ≡ sample_run 9 51 9 (row 0 0 0 0 0 0 0 ∷ row 0 1 1 1 1 0 0 ∷ row 0 4 0 13 1 0 0 ∷ row 1 0 1 28 0 0 0 ∷ row 1 1 2 29 1 0 0 ∷ row 0 1 2 29 1 0 0 ∷ row 1 5 2 29 1 0 0 ∷ row 1 6 0 0 0 0 0 ∷ row 0 5 2 29 1 0 0 ∷ row 0 4 0 46 1 0 0 ∷ row 0 5 1 49 1 0 0 ∷ row 0 6 0 0 0 0 0 ∷ [])

-- Sample F: the start is rejected, as C's
abbrev pub SampleF : Type 0
SampleF = run_of standard T (bytes "<r></s>") sample_output ≡ sample_run 4 3 1 (row 0 0 255 0 0 0 0 ∷ row 0 1 0 1 1 0 0 ∷ [])

-- Sample G
abbrev pub SampleG : Type 0
SampleG = run_of standard T (bytes "<p:r/>") sample_output ≡ sample_run 5 0 0 []

-- Sample H
abbrev pub SampleH : Type 0
SampleH = (run_of standard T (bytes "<r/") sample_output ≡ sample_run 1 3 0 []) × (run_of standard T (bytes "<r/x") sample_output ≡ sample_run 2 3 0 [])
