-- 'Records': a unit of a document, its number, its records in the list. Definitions.
use Rattle.std.specs.Prelude.{◌≡◌, Bool, cond, List, [], ◌∷◌, map, ◌⊎◌, ℕ, eqb}
use Rattle.std.proofs.Math.Option.{some}
use Rattle.laws.specs.Gather.{gather}
use Rattle.laws.specs.Members.{In, All}
use Rattle.model.specs.Theory.{Piece, opens, holds, Record, Theory}
use Rattle.model.specs.Tree.{Tree}
use Rattle.model.specs.Model.{WholeUnit, Strand, Assigned, units_opened, number_in, assigned, cells}

-- The pieces of those records, in their order, whose unit passes a test.
abbrev pub of_unit : {B U : Type 0} → (U → Bool) → List (Record B U) → List (Piece B)
of_unit test = gather (λ p. cond (test p.unit) (p.piece ∷ []) [])

-- The pieces that a unit has of event k.
abbrev pub pieces_at : {B : Type 0} → WholeUnit B → ℕ → List (Piece B)
pieces_at u k = gather (λ p. cond (eqb p.event k) (p.piece ∷ []) []) u.pieces

-- A piece other than an open.
abbrev pub IsHeld : {B : Type 0} → Piece B → Type 0
IsHeld (opens b) = ⊥
IsHeld (holds b) = Unit {0}

-- Pieces of which the first is an open, and no other.
abbrev pub OpensOnce : {B : Type 0} → List (Piece B) → Type 0
OpensOnce [] = ⊥
OpensOnce (opens b ∷ ps) = All IsHeld ps
OpensOnce (holds b ∷ ps) = ⊥

module _ (Θ : Theory) where
  -- A unit of a document: of some event an attribute unit, or the target of a strand.
  abbrev pub UnitOf : Tree Θ → WholeUnit Θ.Body → Type 0
  UnitOf t u = (x : Assigned Θ.Body) × In x (assigned Θ t) × (In u x.attributes ⊎ ((s : Strand Θ.Body) × In s x.strands × (s.target ≡ some u)))

  -- "a unit's number is how many opens come before its own".
  abbrev pub unit_number : Tree Θ → WholeUnit Θ.Body → ℕ
  unit_number t u = number_in (units_opened (gather (λ x. x) (cells Θ t))) u.key

  -- A record of the list: a piece of a unit, under its number.
  abbrev pub Owned : Tree Θ → Record Θ.Body ℕ → Type 0
  Owned t r = (u : WholeUnit Θ.Body) × UnitOf t u × (r.unit ≡ unit_number t u) × In r.piece (map (λ p. p.piece) u.pieces)
