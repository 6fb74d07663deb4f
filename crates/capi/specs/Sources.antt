-- Where a URI stands, in numbers: 0 the table, 1 the scene. Definitions.
use Rattle.std.specs.Prelude.{ℕ, List, [], ◌∷◌}
use Rattle.uris.specs.declared.UriSpan.{UriSpan}
use Rattle.uris.specs.declared.Source.{Source}
use Rattle.uris.specs.declared.Source.TheVariants.{Table, Scene}

abbrev pub source_number : Source → ℕ
source_number Table = 0
source_number Scene = 1

-- source, place, length
abbrev pub span_numbers : UriSpan → List ℕ
span_numbers w = source_number w.source ∷ w.at ∷ w.len ∷ []
