-- Worked examples of the bound, by computation: vectors of requests N2 and N3, the number behind the bar.
use Rattle.std.specs.Prelude.{ℕ, ◌≡◌, refl, List, [], ◌∷◌}
use Rattle.laws.specs.Text.{bytes}
use Rattle.table.specs.Table.{decode}
use Rattle.table.specs.Examples.{T, T2}
use Rattle.demands.specs.Scenes.{model_count}
use Rattle.demands.specs.Limits.{events_within}
use Rattle.demands.specs.MiscExamples.{K}
use Rattle.demands.specs.Computing.{computing}
use Rattle.forecast.specs.Bounds.{sum_of, event_bound, scene_bound}

-- any element validate 0; any attribute validate 0, validate 1; one mode
abbrev pub Q : List ℕ
Q = 0x00 ∷ 0x01 ∷ 0x02 ∷ 0x03 ∷ 0x03 ∷ 0xFE ∷ 0x00 ∷ 0x00 ∷ 0x07 ∷ 0xFE ∷ 0x00 ∷ 0x00 ∷ 0x07 ∷ 0xFE ∷ 0x01 ∷ 0x00 ∷ []

-- of the events of a scene that pass no limit
abbrev bound_of : List ℕ → List ℕ → ℕ
bound_of table s = scene_bound (decode table) s (events_within (decode table) s)

-- one strand at each event: samples, a scene that is cut, a byte behind the root
strands_only :
    (bound_of T (bytes "<r xmlns=\"u\">a<x/></r>") ≡ 170)
    × (bound_of K (bytes "<r>a<x/>b</r> <!--c-->") ≡ 204)
    × (bound_of K (bytes "") ≡ 0)
    × (bound_of K (bytes "<r>a<x>") ≡ 102)
    × (bound_of K (bytes "<r/>x") ≡ 68)
    × (bound_of T (bytes "<r><x/></r>") ≡ 136)
unfolding computing sum_of events_within
strands_only = (refl, refl, refl, refl, refl, refl)

-- N3-10: a rejected section has one strand, as an unwrapped one
rejected_strands : (bound_of T (bytes "<r/>") ≡ 68) × (bound_of T (bytes "<r xmlns=\"u\"><w xmlns=\"q\"><x xmlns=\"u\"/></w></r>") ≡ 204)
unfolding computing sum_of events_within
rejected_strands = (refl, refl)

-- more strands at each v; the fifth is refused and not counted
many_strands : bound_of T2 (bytes "<r xmlns=\"u\"><v xmlns=\"v\"><q xmlns=\"q\"><v xmlns=\"v\"><q xmlns=\"q\"><v xmlns=\"v\"><q xmlns=\"q\"><v xmlns=\"v\"><q xmlns=\"q\"><v xmlns=\"v\"><q xmlns=\"q\">") ≡ 2074
unfolding computing sum_of events_within
many_strands = refl

-- attribute units, and an attribute that stands in two of them
attribute_units_lem : (bound_of Q (bytes "<r xmlns:p='u' p:a='' p:b='' xml:c=''/>") ≡ 96) × (bound_of Q (bytes "<r xmlns:p='u' p:a='' p:b='' xml:c=''>t<x p:a=''/></r>") ≡ 210)
unfolding computing sum_of events_within
attribute_units_lem = (refl, refl)

-- "A start with one new unit and 16 kept attributes meets its 34 exactly"
abbrev sixteen : List ℕ
sixteen = bytes "<r a='' b='' c='' d='' e='' f='' g='' h='' i='' j='' k='' l='' m='' n='' o='' p=''/>"

met_exactly : (bound_of K sixteen ≡ 68) × (event_bound (decode K) sixteen 0 ≡ 34) × (model_count (decode K) sixteen 1 ≡ 34)
unfolding computing sum_of events_within model_count
met_exactly = (refl, refl, refl)
