-- The same as the code asks it of arrays. Definitions.
use Rattle.std.specs.Prelude.{ℕ, ◌+◌, ◌*◌, List, Bool, ◌&&◌, get_or, leb}
use Rattle.laws.specs.Lists.{all, tabulate}
use Rattle.reader.specs.Stored.{binding_in}
use Rattle.equality.specs.Same.{same_each, same_binding, same_level, held_level}

-- so many levels, bindings and strands of each level have places in the arrays
unfoldable pub within_arrays : ℕ → ℕ → List ℕ → Bool
within_arrays depth bound spaces = leb depth 64 && (leb bound 64 && all (λ (k : ℕ). leb (get_or spaces (4 * k + 3) 0) 16) (tabulate (λ (k : ℕ). k) 0 depth))

-- the first so many bindings and levels of two sessions' arrays
unfoldable pub arrays_same : ℕ → ℕ → List ℕ → List ℕ → List ℕ → List ℕ → List ℕ → List ℕ → List ℕ → List ℕ → Bool
arrays_same depth bound names bindings spaces strands names' bindings' spaces' strands' =
    same_each same_binding (tabulate (binding_in bindings) 0 bound) (tabulate (binding_in bindings') 0 bound)
    && same_each same_level (tabulate (held_level names spaces strands) 0 depth) (tabulate (held_level names' spaces' strands') 0 depth)
