-- Worked examples of the figures, by computation: vectors of requests N2 and N3.
use Rattle.std.specs.Prelude.{ℕ, ◌≡◌, refl, List, [], ◌∷◌, ◌++◌, replicate}
use Rattle.laws.specs.Gather.{gather}
use Rattle.laws.specs.Text.{bytes}
use Rattle.table.specs.Table.{standard, former}
use Rattle.table.specs.Examples.{T, T2}
use Rattle.model.specs.DefaultExamples.{T+}
use Rattle.demands.specs.Scenes.{model_count}
use Rattle.demands.specs.Limits.{events_within}
use Rattle.demands.specs.MiscExamples.{K}
use Rattle.demands.specs.Computing.{computing}
use Rattle.forecast.specs.Forecasts.{greatest, unit_count, figures_of, forecast_of, figure_numbers}
use Rattle.vectors.specs.BoundExamples.{Q}

abbrev figures : List ℕ → List ℕ → List ℕ
figures table s = figure_numbers (forecast_of standard table s)

-- number, place, records, units, strands, depth
abbrev six : ℕ → ℕ → ℕ → ℕ → ℕ → ℕ → List ℕ
six number place records units strands depth = number ∷ place ∷ records ∷ units ∷ strands ∷ depth ∷ []

-- a text k times
abbrev times : ℕ → List ℕ → List ℕ
times k text = gather (λ (x : List ℕ). x) (replicate k text)

-- N2-1 to N2-4, N2-6, N2-7: 9, and stops by the reader's numbers
read_stops :
    (figures T (bytes "<r xmlns=\"u\">a<x/></r>") ≡ six 9 22 7 1 1 2)
    × (figures K (bytes "<r>a<x/>b</r> <!--c-->") ≡ six 9 22 8 1 1 2)
    × (figures K (bytes "") ≡ six 1 0 0 0 0 0)
    × (figures K (bytes " <!----> ") ≡ six 1 9 0 0 0 0)
    × (figures K (bytes "<r>a<x>") ≡ six 1 7 4 1 1 2)
    × (figures K (bytes "<r>a<x>b") ≡ six 1 8 4 1 1 2)
    × (figures K (bytes "<r>a<x/>]]>") ≡ six 2 8 5 1 1 2)
    × (figures K (bytes "<r/>x") ≡ six 2 4 4 1 1 1)
    × (figures K (bytes "<r>a<" ++ times 65 (bytes "n")) ≡ six 3 69 3 1 1 1)
    × (figures K (bytes "<r>a<x></y>") ≡ six 4 7 4 1 1 2)
    × (figures K (bytes "<r>a<p:x/>") ≡ six 5 4 3 1 1 1)
    × (figures K (bytes "<r>a<x b='' b=''/>") ≡ six 6 4 3 1 1 1)
    × (figures K (bytes "<r/>") ≡ six 9 4 4 1 1 1)
unfolding computing events_within model_count greatest unit_count figures_of forecast_of
read_stops = (refl, refl, refl, refl, refl, refl, refl, refl, refl, refl, refl, refl, refl)

-- N2-7: a table that is refused
refused_tables :
    (figures (0x01 ∷ 0x02 ∷ 0x01 ∷ 0x01 ∷ 0x00 ∷ 0x06 ∷ 0x00 ∷ 0x08 ∷ 0x01 ∷ []) (bytes "<r/>") ≡ six 10 0 0 0 0 0)
    × (figures (0x01 ∷ 0x02 ∷ 0x01 ∷ 0x01 ∷ 0x00 ∷ 0x07 ∷ 0x00 ∷ 0x08 ∷ 0x01 ∷ 0x75 ∷ []) (bytes "<r/>") ≡ six 11 0 0 0 0 0)
    × (figures (0x02 ∷ 0x02 ∷ 0x01 ∷ 0x01 ∷ 0x00 ∷ 0x06 ∷ 0x00 ∷ 0x08 ∷ 0x01 ∷ 0x75 ∷ 0x01 ∷ 0x75 ∷ []) (bytes "<r/>") ≡ six 12 0 0 0 0 0)
unfolding computing events_within model_count greatest unit_count figures_of forecast_of
refused_tables = (refl, refl, refl)

-- N2-5, N2-6: 16 strands at the fourth v, the fifth is refused and not counted; strands without records; attribute units
strands_and_units :
    (figures T2 (bytes "<r xmlns=\"u\">" ++ times 5 (bytes "<v xmlns=\"v\"><q xmlns=\"q\">")) ≡ six 23 117 47 16 16 9)
    × (figures T+ (bytes "<r><x/></r>") ≡ six 9 11 0 0 1 2)
    × (figures Q (bytes "<r xmlns:p='u' p:a='' p:b='' xml:c=''/>") ≡ six 9 39 32 5 1 1)
    × (figures Q (bytes "<r xmlns:p='u' p:a='' p:b='' xml:c=''>t<x p:a=''/></r>") ≡ six 9 54 47 7 1 2)
    × (figures K (bytes "<r a='' b='' c='' d='' e='' f='' g='' h='' i='' j='' k='' l='' m='' n='' o='' p=''/>") ≡ six 9 84 36 1 1 1)
unfolding computing events_within model_count greatest unit_count figures_of forecast_of
strands_and_units = (refl, refl, refl, refl, refl)

-- N3: sections without a rule are units, each with its records; before the request they were strands without records
rejected_units :
    (figures T (bytes "<r/>") ≡ six 9 4 4 1 1 1)
    × (figures T (bytes "<r xmlns=\"u\"><w xmlns=\"q\"><x xmlns=\"u\"/></w></r>") ≡ six 9 48 12 3 1 3)
    × (figures T (bytes "<r><x/></r>") ≡ six 9 11 6 1 1 2)
    × (figure_numbers (forecast_of former T (bytes "<r><x/></r>")) ≡ six 9 11 0 0 1 2)
unfolding computing events_within model_count greatest unit_count figures_of forecast_of
rejected_units = (refl, refl, refl, refl)

-- N2-4, N2-6: the 65th level is refused and not counted
levels : figures K (times 65 (bytes "<r>")) ≡ six 21 192 65 1 1 64
unfolding computing events_within model_count greatest unit_count figures_of forecast_of
levels = refl
