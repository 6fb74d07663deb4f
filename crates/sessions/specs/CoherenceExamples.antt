-- Number 20 by computation: for each clause a session that fails it alone, sessions that no clause refuses, and what a step makes of odd but coherent ones.
use Rattle.std.specs.Prelude.{ℕ, ◌*◌, ◌≡◌, refl, List, [], ◌∷◌, ◌++◌, Bool, true, false, length, drop, replicate, set}
use Rattle.laws.specs.Gather.{gather}
use Rattle.laws.specs.Text.{bytes}
use Rattle.table.specs.Table.{Table, standard, decode}
use Rattle.table.specs.Examples.{T}
use Rattle.model.specs.Rows.{row}
use Rattle.sessions.specs.Sessions.{fresh_of, session_of}
use Rattle.sessions.specs.Coherence.{depth_fits, bound_fits, place_inside, level_spans_inside, binding_spans_inside, names_fit, bindings_allowed, prefixes_fit, strand_counts_fit, modes_fit, classes_fit, targets_fit, validates_aim, units_fit, counts_add_up, awaited_fits, closed_fits, coherent}
use Rattle.sessions.specs.Stepping.{answered, refused_step, step_of}
use Rattle.sessions.specs.Session.{Session}
use Rattle.sessions.specs.Computing.{computing}

-- sample A's scene, and its session behind the first event: <r xmlns="u"> is open, with one strand, in mode 1, validate, opened here, of unit 0
abbrev A : List ℕ
A = bytes "<r xmlns=\"u\">a<x/></r>"

abbrev levels : List ℕ
levels = 1 ∷ 1 ∷ 1 ∷ replicate 189 0

abbrev bindings : List ℕ
bindings = 0 ∷ 0 ∷ 10 ∷ 1 ∷ replicate 252 0

abbrev spaces : List ℕ
spaces = 1 ∷ 0 ∷ 0 ∷ 1 ∷ replicate 252 0

abbrev strands : List ℕ
strands = 449 ∷ replicate 1023 0

abbrev made : ℕ → ℕ → Bool → Bool → ℕ → ℕ → List ℕ → List ℕ → List ℕ → List ℕ → Session
made place units closed awaited depth bound = session_of (record { place = place; units = units; closed = closed; awaited = awaited; depth = depth; bound = bound })

-- that session at another place; with another name and count of bindings; binding; class, URI span and count of strands; first strand
abbrev placed_at : ℕ → Session
placed_at place = made place 1 false false 1 1 levels bindings spaces strands

abbrev named : ℕ → ℕ → ℕ → Session
named at len count = made 13 1 false false 1 1 (at ∷ len ∷ count ∷ replicate 189 0) bindings spaces strands

abbrev binding : ℕ → ℕ → ℕ → ℕ → Session
binding prefixAt prefixLen at len = made 13 1 false false 1 1 levels (prefixAt ∷ prefixLen ∷ at ∷ len ∷ replicate 252 0) spaces strands

abbrev spaced : ℕ → ℕ → ℕ → ℕ → ℕ → Session
spaced place class at len count = made place 1 false false 1 1 levels bindings (class ∷ at ∷ len ∷ count ∷ replicate 252 0) (set strands 1 449)

abbrev strand : ℕ → ℕ → Session
strand place w = made place 1 false false 1 1 levels bindings spaces (set strands 0 w)

-- the values of the clauses, in their order; all true but one, counted from 0
abbrev clauses : Table → List ℕ → Session → List Bool
clauses t s z =
    depth_fits z
    ∷ bound_fits z
    ∷ place_inside s z
    ∷ level_spans_inside s z
    ∷ binding_spans_inside s z
    ∷ names_fit s z
    ∷ bindings_allowed s z
    ∷ prefixes_fit s z
    ∷ strand_counts_fit z
    ∷ modes_fit t z
    ∷ classes_fit t z
    ∷ targets_fit z
    ∷ validates_aim z
    ∷ units_fit z
    ∷ counts_add_up z
    ∷ awaited_fits z
    ∷ closed_fits z
    ∷ []

abbrev all_but : ℕ → List Bool
all_but k = set (replicate 17 true) k false

abbrev blank : List ℕ
blank = replicate 32 7

-- the session fails this clause alone, and the step gives 20
abbrev Alone : ℕ → List ℕ → Session → Type 0
Alone k s z = (clauses (decode T) s z ≡ all_but k) × (step_of standard T s z blank ≡ refused_step 20 0 z blank)

abbrev Passes : Session → Type 0
Passes z = coherent (decode T) A z ≡ true

-- a coherent session whose step reads an event: the place behind it, its records, and how many levels are open then
abbrev Steps : Session → ℕ → List (List ℕ) → ℕ → Type 0
Steps z place rows depth =
    Passes z
    × ((step_of standard T A z blank).answer ≡ answered 0 place 1 (length rows))
    × ((step_of standard T A z blank).output ≡ gather (λ (r : List ℕ). r) rows ++ drop (16 * length rows) blank)
    × ((step_of standard T A z blank).session.place ≡ place)
    × ((step_of standard T A z blank).session.scope.depth ≡ depth)

-- the session that the first step hands back
abbrev First : Type 0
First = (step_of standard T A fresh_of blank).session ≡ placed_at 13

-- "depth over 64". The 65th level lies behind arrays of 64 levels, so that arrays of 65 show the clause alone; in arrays of 64 the level has no name
abbrev deep : List ℕ → List ℕ → List ℕ → Session
deep levels spaces strands = made 13 1 false false 65 1 levels bindings spaces strands

abbrev Depth : Type 0
Depth =
    Alone 0 A (deep (1 ∷ 1 ∷ 1 ∷ gather (λ (k : ℕ). 1 ∷ 1 ∷ 0 ∷ []) (replicate 64 0)) (gather (λ (k : ℕ). 1 ∷ 0 ∷ 0 ∷ 1 ∷ []) (replicate 65 0)) (replicate 1040 449))
    × (step_of standard T A (deep levels spaces strands) blank ≡ refused_step 20 0 (deep levels spaces strands) blank)

-- "over 64 bindings": 64 times xmlns="" behind the first
abbrev Bound : Type 0
Bound = Alone 1 A (made 13 1 false false 1 65 (1 ∷ 1 ∷ 65 ∷ replicate 189 0) bindings spaces strands)

-- "a place or span outside the scene": the place, a level's name and URI, a binding's prefix and URI; an empty span too
abbrev Outside : Type 0
Outside =
    Alone 2 A (placed_at 23)
    × Alone 3 A (spaced 13 1 22 1 1)
    × Alone 3 A (spaced 13 1 23 0 1)
    × Alone 3 (bytes "<r xmlns=\"u\">r") (named 13 2 1)
    × Alone 4 (bytes "<r xmlns=\"u\">r") (binding 13 2 10 1)
    × Alone 4 A (binding 0 0 22 1)
    × Alone 4 A (binding 0 0 23 0)

-- "a level's name at offset 0 or not a name by the reader's rules"
abbrev Names : Type 0
Names = Alone 5 (bytes "r xmlns=\"uv\">a") (named 0 1 1) × Alone 5 A (named 2 1 1) × Alone 5 A (named 15 2 1) × Alone 5 A (named 15 0 1)

-- "a binding that 5 would refuse": prefix xmlns or xml; a prefix of an empty URI; a reserved URI; an &
abbrev Refused : Type 0
Refused =
    Alone 6 A (binding 3 5 10 1)
    × Alone 6 A (binding 3 3 10 1)
    × Alone 6 A (binding 1 1 10 0)
    × Alone 6 (bytes "<r http://www.w3.org/2000/xmlns/") (binding 1 1 3 29)
    × Alone 6 (bytes "<r xmlns=\"&amp;") (binding 0 0 10 5)

-- "or whose prefix is neither zero nor a name part"
abbrev Prefixes : Type 0
Prefixes = Alone 7 A (binding 9 0 10 1) × Alone 7 A (binding 0 1 10 1)

-- "a level without 1 to 16 strands"
abbrev Counts : Type 0
Counts = Alone 8 A (spaced 13 1 0 0 0) × Alone 8 A (spaced 13 1 0 0 17)

-- "a mode, class or unit that the table or count lacks", "a validate strand without a target"
abbrev Lacking : Type 0
Lacking =
    Alone 9 A (strand 13 450)
    × Alone 10 A (spaced 13 2 0 0 1)
    × Alone 10 A (spaced 13 253 0 0 1)
    × Alone 11 A (strand 13 961)
    × Alone 12 A (strand 13 193)

-- "over 65,536 units", "levels' counts that do not add up"
abbrev Sums : Type 0
Sums = Alone 13 A (made 13 65537 false false 1 1 levels bindings spaces strands) × Alone 14 A (named 1 1 0) × Alone 14 A (named 1 1 2)

-- "an awaited end at depth 0", "a closed root at depth above 0"
abbrev Flags : Type 0
Flags =
    Alone 15 A (made 13 1 false true 0 0 levels bindings spaces strands)
    × Alone 16 A (made 13 1 true false 1 1 levels bindings spaces strands)

-- never 20: opened-here; a class against its URI span or its binding; attach without a target; equal targets; (0, 1) on a letter
abbrev Never : Type 0
Never =
    Passes (strand 13 321)
    × Passes (spaced 13 1 3 5 1)
    × Passes (spaced 13 0 0 0 1)
    × Passes (spaced 13 254 0 0 1)
    × Passes (spaced 13 255 0 0 1)
    × Passes (strand 13 1)
    × Passes (strand 13 129)
    × Passes (spaced 13 1 0 0 2)
    × (coherent (decode T) (bytes "p<r>u         ") (made 4 1 false false 1 1 (2 ∷ 1 ∷ 1 ∷ replicate 189 0) (0 ∷ 1 ∷ 4 ∷ 1 ∷ replicate 252 0) spaces strands) ≡ true)

-- an end takes the level's class and URI span as they stand; a delivering strand with opened-here closes its unit, attach too; one without
-- does not; unwrap, or no target: nothing
abbrev Ends : Type 0
Ends =
    Steps (placed_at 18) 22 (row 0 5 1 20 1 0 0 ∷ row 0 6 0 0 0 0 0 ∷ []) 0
    × Steps (spaced 18 255 3 5 1) 22 (row 0 5 255 20 1 3 5 ∷ row 0 6 0 0 0 0 0 ∷ []) 0
    × Steps (strand 18 385) 22 (row 0 5 1 20 1 0 0 ∷ row 0 6 0 0 0 0 0 ∷ []) 0
    × Steps (strand 18 257) 22 (row 0 5 1 20 1 0 0 ∷ []) 0
    × Steps (strand 18 417) 22 [] 0
    × Steps (strand 18 129) 22 [] 0

-- <x/> as a section of its own, for which mode 1 has no rule: rejected (N3), in unit 1
abbrev rejected : List (List ℕ)
rejected = row 1 0 255 14 0 0 0 ∷ row 1 1 1 15 1 0 0 ∷ []

-- a level's namespace, held against that of <x/>, which is u: the table's for class 1, the bytes of its span for 255, the empty URI for 0, xml's
-- for 254. In its section x is written to unit 0; as a section of its own it is rejected
abbrev Namespaces : Type 0
Namespaces =
    Steps (spaced 14 1 0 0 1) 18 (row 0 1 1 15 1 0 0 ∷ []) 2
    × Steps (spaced 14 255 10 1 1) 18 (row 0 1 1 15 1 0 0 ∷ []) 2
    × Steps (spaced 14 255 3 5 1) 18 rejected 2
    × Steps (spaced 14 0 0 0 1) 18 rejected 2
    × Steps (spaced 14 254 0 0 1) 18 rejected 2

-- an awaited end ends the innermost level, wherever the place is
abbrev Awaited : Type 0
Awaited = Steps (made 16 1 false true 1 1 levels bindings spaces strands) 16 (row 0 5 1 1 1 0 0 ∷ row 0 6 0 0 0 0 0 ∷ []) 0

-- two strands with one target: each writes
abbrev Both : Type 0
Both = Steps (spaced 13 1 0 0 2) 14 (row 0 4 0 13 1 0 0 ∷ row 0 4 0 13 1 0 0 ∷ []) 1

-- one prefix twice: <x/> is in the namespace of the later binding, first u and then the unlisted xmlns
abbrev Twice : Type 0
Twice =
    Steps (made 14 1 false false 1 2 (1 ∷ 1 ∷ 2 ∷ replicate 189 0) (0 ∷ 0 ∷ 3 ∷ 5 ∷ 0 ∷ 0 ∷ 10 ∷ 1 ∷ replicate 248 0) spaces strands) 18 (row 0 1 1 15 1 0 0 ∷ []) 2
    × Steps (made 14 1 false false 1 2 (1 ∷ 1 ∷ 2 ∷ replicate 189 0) (0 ∷ 0 ∷ 10 ∷ 1 ∷ 0 ∷ 0 ∷ 3 ∷ 5 ∷ replicate 248 0) spaces strands) 18 (row 1 0 255 14 0 0 0 ∷ row 1 1 255 15 1 3 5 ∷ []) 2

-- a place inside a tag is read as what stands there: the text x/>
abbrev Inside : Type 0
Inside = Steps (placed_at 15) 18 (row 0 4 0 15 3 0 0 ∷ []) 1

pub incoherent : First × Depth × Bound × Outside × Names × Refused × Prefixes × Counts × Lacking × Sums × Flags
unfolding computing
incoherent = (refl, ((refl, refl), refl), (refl, refl), ((refl, refl), (refl, refl), (refl, refl), (refl, refl), (refl, refl), (refl, refl), (refl, refl)), ((refl, refl), (refl, refl), (refl, refl), (refl, refl)), ((refl, refl), (refl, refl), (refl, refl), (refl, refl), (refl, refl)), ((refl, refl), (refl, refl)), ((refl, refl), (refl, refl)), ((refl, refl), (refl, refl), (refl, refl), (refl, refl), (refl, refl)), ((refl, refl), (refl, refl), (refl, refl)), ((refl, refl), (refl, refl)))

pub coherent_though : Never × Ends × Namespaces × Awaited × Both × Twice × Inside
unfolding computing
coherent_though = ((refl, refl, refl, refl, refl, refl, refl, refl, refl), ((refl, refl, refl, refl, refl), (refl, refl, refl, refl, refl), (refl, refl, refl, refl, refl), (refl, refl, refl, refl, refl), (refl, refl, refl, refl, refl), (refl, refl, refl, refl, refl)), ((refl, refl, refl, refl, refl), (refl, refl, refl, refl, refl), (refl, refl, refl, refl, refl), (refl, refl, refl, refl, refl), (refl, refl, refl, refl, refl)), (refl, refl, refl, refl, refl), (refl, refl, refl, refl, refl), ((refl, refl, refl, refl, refl), (refl, refl, refl, refl, refl)), (refl, refl, refl, refl, refl))
