-- N2: "The record count is at most 34 times the strands of each event, summed, plus 4 for each attribute unit and 2 for each attribute in one." By the
-- model. Definitions.
use Rattle.std.specs.Prelude.{ℕ, zero, suc, ◌+◌, ◌*◌, List, [], cond, length, get_or, eqb}
use Rattle.laws.specs.Gather.{total}
use Rattle.table.specs.Table.{Table}
use Rattle.model.specs.Model.{Marked, WholeUnit, assigned_at, assigned_of}
use Rattle.model.specs.Records.{Body}
use Rattle.model.specs.Dispatch.{dispatch, piece_body}
use Rattle.demands.specs.Limits.{closed_tree, strands_at}

-- a figure summed over the first so many events
unfoldable pub sum_of : (ℕ → ℕ) → ℕ → ℕ
sum_of f zero = 0
sum_of f (suc k) = sum_of f k + f k

-- the attribute units that the model opens at the k-th event
abbrev pub attribute_units_at : Table → List ℕ → ℕ → List (WholeUnit Body)
attribute_units_at t s k = (get_or (assigned_of (dispatch t) (closed_tree t s)) k (assigned_at 0 [] [])).attributes

-- the attributes that a unit holds: its records of kind 2
abbrev pub attributes_held : WholeUnit Body → ℕ
attributes_held u = total (λ (p : Marked Body). cond (eqb (piece_body p.piece).kind 2) 1 0) u.pieces

-- of the k-th event: how many attribute units it opens, and how many attributes these hold
abbrev pub attribute_unit_count : Table → List ℕ → ℕ → ℕ
attribute_unit_count t s k = length (attribute_units_at t s k)

abbrev pub unit_attribute_count : Table → List ℕ → ℕ → ℕ
unit_attribute_count t s k = total attributes_held (attribute_units_at t s k)

-- of one event
abbrev pub event_bound : Table → List ℕ → ℕ → ℕ
event_bound t s k = 34 * strands_at t s k + 4 * attribute_unit_count t s k + 2 * unit_attribute_count t s k

-- of the first so many: "34 times the strands of each event, summed, plus 4 for each attribute unit and 2 for each attribute in one"
abbrev pub scene_bound : Table → List ℕ → ℕ → ℕ
scene_bound t s k = 34 * sum_of (strands_at t s) k + 4 * sum_of (attribute_unit_count t s) k + 2 * sum_of (unit_attribute_count t s) k
