-- Which bytes can stand in a character of a set, as an answer. Definitions.
use Rattle.std.specs.Prelude.{ℕ, List, Bool, true, false, ◌⊎◌}
use Rattle.std.proofs.Common.{inl, inr}
use Rattle.utf8.specs.declared.Set.{Set}
use Rattle.utf8.proofs.Deciding.{decided}

-- what a decision says
abbrev pub answer_of : {P : Type 0} → P ⊎ (P → ⊥) → Bool
answer_of (inl p) = true
answer_of (inr n) = false

-- whether some character of the set begins with these bytes and then b
unfoldable pub begins : Set → List ℕ → ℕ → Bool
begins x bytes b = answer_of (decided x bytes b)
