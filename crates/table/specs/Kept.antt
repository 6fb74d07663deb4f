-- "two attach/unwrap rules for one mode, kind, class": of the rules taken at most one keeps the section. Definitions.
use Rattle.std.specs.Prelude.{◌≡◌, List, [], ◌∷◌}
use Rattle.laws.specs.Members.{All}
use Rattle.table.specs.declared.Action.{Action}
use Rattle.table.specs.declared.Action.TheVariants.{Attach, Unwrap, Validate}
use Rattle.table.specs.declared.Rule.{Rule}

-- behind a rule with this action
abbrev pub OthersValidate : Action → List Rule → Type 0 → Type 0
OthersValidate Validate rs later = later
OthersValidate Attach rs later = All (λ r. r.action ≡ Validate) rs
OthersValidate Unwrap rs later = All (λ r. r.action ≡ Validate) rs

abbrev pub OneKept : List Rule → Type 0
OneKept [] = Unit {0}
OneKept (r ∷ rs) = OthersValidate r.action rs (OneKept rs)
