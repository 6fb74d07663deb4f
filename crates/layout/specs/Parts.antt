-- A session's bytes in parts: its first forty, and those of a level. Definitions.
use Rattle.std.specs.Prelude.{ℕ, ◌*◌, List, [], ◌∷◌, ◌++◌, Bool, take, drop}
use Rattle.laws.specs.Gather.{gather}
use Rattle.layout.specs.Layout.{flag, bytes4, bytes8}

unfoldable pub head_bytes : Bool → Bool → ℕ → ℕ → ℕ → ℕ → List ℕ
head_bytes closed awaited place units depth bound =
    (1 ∷ flag closed ∷ flag awaited ∷ 0 ∷ 0 ∷ 0 ∷ 0 ∷ 0 ∷ []) ++ bytes8 place ++ bytes8 units ++ bytes8 depth ++ bytes8 bound

-- of a session's levels, spaces and strands those of the k-th level
unfoldable pub level_words : List ℕ → List ℕ → List ℕ → ℕ → List ℕ
level_words levels spaces strands k =
    gather bytes4 (take 3 (drop (3 * k) levels))
    ++ gather bytes4 (take 4 (drop (4 * k) spaces))
    ++ (bytes4 0 ++ gather bytes4 (take 16 (drop (16 * k) strands)))
