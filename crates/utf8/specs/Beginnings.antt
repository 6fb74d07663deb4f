-- What a byte must meet to stand in a character of a set. A definition.
use Rattle.std.specs.Prelude.{ℕ, ◌≡◌, List, ◌∷◌, ◌++◌, true}
use Rattle.utf8.specs.declared.Range.{Range}
use Rattle.utf8.specs.Utf8.{utf8}
use Rattle.utf8.specs.Sets.{member}

-- "The first byte at which no character allowed there can begin or go on": some character of the set begins with these bytes and then b
pub record Begins (ranges : List Range) (bytes : List ℕ) (b : ℕ) : Type 0 where
  pub character : ℕ
  pub allowed : member ranges character ≡ true
  pub rest : List ℕ
  pub form : utf8 character ≡ bytes ++ (b ∷ rest)
