-- Bytes that are a name part, or a name, as a whole: what reads them, with a byte behind that no name has, ends where they do. Definitions.
use Rattle.std.specs.Prelude.{ℕ, List, [], ◌∷◌, ◌++◌, Bool, false, length, eqb, Ok, Err}
use Rattle.lexer.specs.Names.{part_end, name_at}
use Rattle.lexer.specs.Reads.{Read, Named}

abbrev pub part_to : ℕ → Read → Bool
part_to n (Ok j) = eqb j n
part_to n (Err x) = false

abbrev pub name_to : ℕ → Named → Bool
name_to n (Ok name) = eqb name.end n
name_to n (Err x) = false

unfoldable pub is_part : List ℕ → Bool
is_part bytes = part_to (length bytes) (part_end (bytes ++ (0 ∷ [])) 0)

-- "a name by the reader's rules"
unfoldable pub is_whole_name : List ℕ → Bool
is_whole_name bytes = name_to (length bytes) (name_at (bytes ++ (0 ∷ [])) 0)
