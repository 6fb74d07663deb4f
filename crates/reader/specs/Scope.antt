-- The open elements and their bindings in arrays of numbers. Definitions.
use Rattle.std.specs.Prelude.{ℕ, zero, suc, ◌+◌, ◌*◌, ◌-◌, List, [], ◌∷◌, cond, get_or, take, replicate, eqb, leb, ltb, Result, Ok, Err}
use Rattle.laws.specs.Lists.{tabulate}
use Rattle.laws.specs.Over.{overwrite}
use Rattle.reader.specs.Spans.{span}
use Rattle.reader.specs.Stored.{at_most, narrowed, binding_in}
use Rattle.reader.specs.Events.{Open}
use Rattle.reader.specs.declared.Span.{Span}
use Rattle.reader.specs.declared.Scope.{Scope}
use Rattle.reader.specs.declared.ScopeError.{ScopeError}
use Rattle.reader.specs.declared.ScopeError.TheVariants.{Depth, Bindings}

-- "nothing open"
abbrev pub fresh_scope : Scope
fresh_scope = record { depth = 0; bound = 0; levels = replicate 192 0; bindings = replicate 256 0 }

-- a level: its whole name's place and length, and how many bindings it has
abbrev pub level_numbers : Span → ℕ → List ℕ
level_numbers name count = narrowed name.at ∷ narrowed name.len ∷ count ∷ []

abbrev pub scope_number : ScopeError → ℕ
scope_number Depth = 21
scope_number Bindings = 22

-- the scope with an element more, which declares the first owned bindings of own
abbrev pub with_level : Scope → Span → List ℕ → ℕ → Scope
with_level sc name own owned =
    record {
      depth = sc.depth + 1;
      bound = sc.bound + owned;
      levels = overwrite sc.levels (3 * sc.depth) (level_numbers name owned);
      bindings = overwrite sc.bindings (4 * sc.bound) (take (4 * owned) own);
    }

-- an element opened in a scope that has room, else 21 or 22. A tag has at most 16 declarations
unfoldable pub opened_of : Scope → Span → List ℕ → ℕ → Result Scope ScopeError
opened_of sc name own owned =
    cond (leb 64 sc.depth) (Err Depth)
    (cond (ltb 64 (sc.bound + at_most 16 owned)) (Err Bindings) (Ok (with_level sc name own (at_most 16 owned))))

-- how many bindings the innermost level has
abbrev pub count_in : Scope → ℕ → ℕ
count_in sc k = get_or sc.levels (3 * k + 2) 0

-- the innermost element closed; a scope with none open, or of more than 64, as it was
unfoldable pub closed_of : Scope → Scope
closed_of sc =
    cond (eqb sc.depth 0) sc
    (cond (ltb 64 sc.depth) sc
    (record { depth = sc.depth - 1; bound = sc.bound - count_in sc (sc.depth - 1); levels = sc.levels; bindings = sc.bindings }))

-- the name of the k-th level
unfoldable pub name_in : List ℕ → ℕ → Span
name_in levels k = span (get_or levels (3 * k) 0) (get_or levels (3 * k + 1) 0)

-- the first depth levels as open elements, innermost first, of which all have bound bindings
unfoldable pub opens_in : List ℕ → List ℕ → ℕ → ℕ → List Open
opens_in levels bindings zero bound = []
opens_in levels bindings (suc k) bound =
    let count = get_or levels (3 * k + 2) 0 in
    record { name = name_in levels k; declarations = tabulate (binding_in bindings) (bound - count) count } ∷ opens_in levels bindings k (bound - count)

abbrev pub opens_of : Scope → List Open
opens_of sc = opens_in sc.levels sc.bindings sc.depth sc.bound
