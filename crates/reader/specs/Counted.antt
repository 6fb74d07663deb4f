-- The bindings of open elements, counted. Definitions.
use Rattle.std.specs.Prelude.{ℕ, zero, suc, ◌+◌, ◌*◌, ◌≡◌, List, get_or}

-- how many bindings the first depth levels have
unfoldable pub count_of : List ℕ → ℕ → ℕ
count_of levels zero = 0
count_of levels (suc k) = count_of levels k + get_or levels (3 * k + 2) 0

-- bound of them, all told
abbrev pub Counted : List ℕ → ℕ → ℕ → Type 0
Counted levels depth bound = count_of levels depth ≡ bound
