-- The open levels in one array, 24 numbers to a level: its name's place and length, how many bindings it has; its class, its URI's place and length,
-- how many strands it has; one that is free; its sixteen strands. What the arrays of a session have of it. Definitions.
use Rattle.std.specs.Prelude.{ℕ, ◌+◌, ◌*◌, ◌/◌, ◌%◌, List, get_or}
use Rattle.laws.specs.Lists.{tabulate}

-- so many numbers of each of 64 levels, from one of its 24 on
unfoldable pub of_each : ℕ → ℕ → List ℕ → List ℕ
of_each wide from l = tabulate (λ (i : ℕ). get_or l (24 * (i / wide) + from + i % wide) 0) 0 (64 * wide)

abbrev pub level_names : List ℕ → List ℕ
level_names l = of_each 3 0 l

abbrev pub level_spaces : List ℕ → List ℕ
level_spaces l = of_each 4 3 l

abbrev pub level_strands : List ℕ → List ℕ
level_strands l = of_each 16 8 l

-- the one that is free
abbrev pub level_free : List ℕ → List ℕ
level_free l = of_each 1 7 l
