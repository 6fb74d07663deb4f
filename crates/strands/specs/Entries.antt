-- "At a new section each strand, in order, takes the rules": the strands of an element that starts, in two arrays of sixteen numbers, strands and
-- schemas. Definitions.
use Rattle.std.specs.Prelude.{ℕ, ◌<◌, List, [], ◌∷◌, map, true, cond, ◌≡◌, get_or, leb, Option, Some, None}
use Rattle.std.proofs.Math.Option.{none, some}
use Rattle.laws.specs.Lists.{tabulate}
use Rattle.laws.specs.Gather.{gather, total}
use Rattle.table.specs.Table.{or_else, standard, fallback}
use Rattle.table.specs.declared.Rule.{Rule}
use Rattle.model.specs.Stream.{Entry, HeldStrand, by_rule, stay}
use Rattle.strands.specs.Packed.{strand_in, packed}
use Rattle.strands.specs.Rules.{rules_in}

-- the strand that a rule makes of one with this target; a new unit has no number yet
abbrev pub made_by : HeldStrand ℕ → Rule → Entry
made_by r q = record { strand = by_rule q.action q.next none r.target; schema = q.schema }

-- "each strand .. takes the rules of (its mode, kind 0, class)"; with no rule "it is validated against reject", N3
unfoldable pub entries_by : List ℕ → ℕ → HeldStrand ℕ → List Entry
entries_by index class r = map (made_by r) (or_else (rules_in index r.mode 0 class) (fallback standard.element 0 r.mode ∷ []))

-- of all strands, packed in numbers
abbrev pub entries_from : List ℕ → ℕ → List ℕ → List Entry
entries_from index class words = gather (λ (w : ℕ). entries_by index class (strand_in w)) words

-- "Inside a section strands stay"
abbrev pub stay_entry : ℕ → Entry
stay_entry w = record { strand = stay (strand_in w); schema = 0 }

-- a count of strands; none where they are more than 16
abbrev pub counted : ℕ → Option ℕ
counted n = cond (leb n 16) (Some n) None

abbrev pub strand_word : Entry → ℕ
strand_word e = packed e.strand

abbrev pub schema_word : Entry → ℕ
schema_word e = e.schema

-- the strands that two arrays hold
abbrev pub entry_in : List ℕ → List ℕ → ℕ → Entry
entry_in words schemas k = record { strand = strand_in (get_or words k 0); schema = get_or schemas k 0 }

unfoldable pub entries_in : List ℕ → List ℕ → ℕ → List Entry
entries_in words schemas n = tabulate (entry_in words schemas) 0 n

-- a strand whose unit opens here, with the unit's number
abbrev pub aimed_at : HeldStrand ℕ → ℕ → HeldStrand ℕ
aimed_at r u = record { mode = r.mode; action = r.action; target = some u; here = r.here }

-- how many of some strands open a unit here
abbrev pub here_count : List ℕ → ℕ
here_count words = total (λ (w : ℕ). cond (strand_in w).here 1 0) words

-- the strands as they are before their units are numbered: those that open one have no target
abbrev pub Unnumbered : Entry → Type 0
Unnumbered e = (e.strand.mode < 32) × (e.strand.here ≡ true → e.strand.target ≡ none)
