-- 'Records' and 'Calls': the same records event by event, from the strands of the open elements and a count of units. Definitions.
use Rattle.std.specs.Prelude.{Bool, true, false, cond, ℕ, suc, ◌+◌, length}
use mathlib.Core.List.{List, [], ◌∷◌, ◌++◌, map, tail, foldl}
use Rattle.std.proofs.Math.Option.{Option, none, some}
use Rattle.laws.specs.Gather.{gather, total}
use Rattle.model.specs.Theory.{Action, Attach, Unwrap, Validate, AttributeUnit, Piece, opens, holds, Record, Theory}
use Rattle.model.specs.Tree.{TreeEvent, start, text, end}

-- "A strand is one reading of the path from the root: a mode, an action and a target unit or none"; and "whether the unit opened at this element".
pub record HeldStrand (U : Type 0) : Type 0 where
  pub mode : ℕ
  pub action : Action
  pub target : Option U
  pub here : Bool

module _ {U : Type 0} where
  -- "Before the root there is one strand: mode 0, unwrap, no target."
  abbrev pub held_before_root : HeldStrand U
  held_before_root = record { mode = 0; action = Unwrap; target = none; here = false }

  -- "Inside a section strands stay."
  abbrev pub stay : HeldStrand U → HeldStrand U
  stay s = record { mode = s.mode; action = s.action; target = s.target; here = false }

  -- The strand that a rule makes, of its action and next mode. "Validate: a new unit is its target. Attach and unwrap: the target stays."
  abbrev pub by_rule : Action → ℕ → Option U → Option U → HeldStrand U
  by_rule Attach next new t = record { mode = next; action = Attach; target = t; here = false }
  by_rule Unwrap next new t = record { mode = next; action = Unwrap; target = t; here = false }
  by_rule Validate next new t = record { mode = next; action = Validate; target = new; here = true }

  -- The unit that gets a strand's elements and text. "Attach without a target delivers nothing."
  abbrev pub receiver : Action → Option U → Option U
  receiver Attach t = t
  receiver Unwrap t = none
  receiver Validate t = t

module _ {B U : Type 0} where
  -- Pieces as records of a unit, if there is one.
  abbrev pub give : Option U → List (Piece B) → List (Record B U)
  give none ps = []
  give (some u) ps = map (λ p. record { unit = u; piece = p }) ps

  -- Attribute units, each open to close, from the j-th on; the j-th is named ν j.
  abbrev pub attributes_from : (ℕ → U) → ℕ → List (AttributeUnit B) → List (Record B U)
  attributes_from ν j [] = []
  attributes_from ν j (a ∷ rest) = give (some (ν j)) (opens a.opening ∷ map holds (a.held ++ (a.closing ∷ []))) ++ attributes_from ν (suc j) rest

module _ (Θ : Theory) where
  -- "an open if new".
  abbrev pub opening : Θ.StartInfo → ℕ → Bool → List (Piece Θ.Body)
  opening σ schema here = cond here (opens (Θ.open_body schema σ) ∷ []) []

  -- "and a close if the unit opened at this element".
  abbrev pub closing : Bool → List (Piece Θ.Body)
  closing here = cond here (holds Θ.close_body ∷ []) []

-- An open element, and its strands.
pub record Level (Θ : Theory) : Type 0 where
  pub at : Θ.Kept
  pub strands : List (HeldStrand ℕ)

-- The open elements, the innermost first, and the count of units opened so far.
pub record State (Θ : Theory) : Type 0 where
  pub levels : List (Level Θ)
  pub units : ℕ

-- A strand of an element that starts, and the schema of the rule taken last.
pub record Entry : Type 0 where
  pub strand : HeldStrand ℕ
  pub schema : ℕ

-- The units that open here get the numbers from u on, in strand order.
abbrev pub allot : ℕ → List Entry → List Entry
allot u [] = []
allot u (e ∷ es) = elim e.strand.here [
  | false ↦ e ∷ allot u es
  | true ↦ record { strand = record { mode = e.strand.mode; action = e.strand.action; target = some u; here = true }; schema = e.schema } ∷ allot (suc u) es
]

-- How many there are.
abbrev pub new_units : List Entry → ℕ
new_units = total (λ e. cond e.strand.here 1 0)

module _ (Θ : Theory) where
  -- "At a new section each strand, in order, takes the rules". A new unit has no number yet.
  abbrev pub take_rules : Θ.StartInfo → List (HeldStrand ℕ) → List Entry
  take_rules σ = gather (λ s. map (λ q. record { strand = by_rule q.action q.next none s.target; schema = q.schema }) (Θ.element_rules s.mode σ))

  -- The strands of an element that starts. "Inside a section strands stay."
  abbrev pub entries_at : List (Level Θ) → Θ.StartInfo → List Entry
  entries_at [] σ = take_rules σ (held_before_root ∷ [])
  entries_at (l ∷ ls) σ = cond (Θ.same_section l.at σ) (map (λ s. record { strand = stay s; schema = 0 }) l.strands) (take_rules σ l.strands)

  -- Its attribute units, by strand, each in the strand's own mode.
  abbrev pub units_of : Θ.StartInfo → List Entry → List (AttributeUnit Θ.Body)
  units_of σ = gather (λ e. Θ.attribute_units e.strand.mode σ)

  -- Its strands, its new units numbered behind the attribute units.
  abbrev pub entered : State Θ → Θ.StartInfo → List Entry
  entered z σ = let es = entries_at z.levels σ in allot (z.units + length (units_of σ es)) es

  -- "then per strand an open if new and start, then 2 and 3 per kept attribute".
  abbrev pub start_records : Θ.StartInfo → Entry → List (Record Θ.Body ℕ)
  start_records σ e = give (receiver e.strand.action e.strand.target) (opening Θ σ e.schema e.strand.here ++ map holds (Θ.start_bodies e.strand.mode σ))

  -- "Text: per strand."
  abbrev pub text_records : Θ.TextInfo → HeldStrand ℕ → List (Record Θ.Body ℕ)
  text_records τ s = give (receiver s.action s.target) (holds (Θ.text_body τ) ∷ [])

  -- "End: per strand an end, and a close if the unit opened at this element."
  abbrev pub end_records : Θ.Kept → Θ.EndInfo → HeldStrand ℕ → List (Record Θ.Body ℕ)
  end_records κ ε s = give (receiver s.action s.target) (holds (Θ.end_body κ ε) ∷ closing Θ s.here)

  -- What an event writes. "A start event writes first the attribute units, by strand, section, rule, each open to close; then per strand".
  unfoldable pub written : State Θ → TreeEvent Θ → List (Record Θ.Body ℕ)
  written z (start σ) = attributes_from (λ n. n) z.units (units_of σ (entries_at z.levels σ)) ++ gather (start_records σ) (entered z σ)
  written z (text τ) = elim z.levels [ [] ↦ [] | ◌∷◌ l ls ↦ gather (text_records τ) l.strands ]
  written z (end ε) = elim z.levels [ [] ↦ [] | ◌∷◌ l ls ↦ gather (end_records l.at ε) l.strands ]

  -- The state after an event.
  unfoldable pub after : State Θ → TreeEvent Θ → State Θ
  after z (start σ) = record {
    levels = record { at = Θ.kept_of σ; strands = map (λ e. e.strand) (entered z σ) } ∷ z.levels;
    units = z.units + length (units_of σ (entries_at z.levels σ)) + new_units (entries_at z.levels σ);
  }
  after z (text τ) = z
  after z (end ε) = record { levels = tail z.levels; units = z.units }

  -- "Fresh is .. no unit opened, nothing open".
  abbrev pub fresh : State Θ
  fresh = record { levels = []; units = 0 }

  -- The state after some events.
  abbrev pub reached : List (TreeEvent Θ) → State Θ
  reached = foldl after fresh

  -- What each event writes, from a state on.
  unfoldable pub stream_from : State Θ → List (TreeEvent Θ) → List (List (Record Θ.Body ℕ))
  stream_from z [] = []
  stream_from z (e ∷ es) = written z e ∷ stream_from (after z e) es

  -- What each event of a scene writes.
  unfoldable pub stream_of : List (TreeEvent Θ) → List (List (Record Θ.Body ℕ))
  stream_of = stream_from fresh
