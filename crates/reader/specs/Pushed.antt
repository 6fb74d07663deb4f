-- A tag's own bindings laid behind those that are open. Definitions.
use Rattle.std.specs.Prelude.{ℕ, ◌+◌, ◌*◌, List, cond, take, leb}
use Rattle.laws.specs.Over.{overwrite}

-- the first owned of own, at most 16, behind the bound that are there, if 64 hold them; else the array as it was
unfoldable pub pushed_bindings : List ℕ → ℕ → List ℕ → ℕ → List ℕ
pushed_bindings bindings bound own owned =
    cond (leb owned 16) (cond (leb (bound + owned) 64) (overwrite bindings (4 * bound) (take (4 * owned) own)) bindings) bindings
