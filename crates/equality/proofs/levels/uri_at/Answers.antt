-- `levels::uri_at` meets its contract.
use mathlib.Core.Path.{ap₂}
use Rattle.reader.specs.Spans.{span}
use Rattle.equality.proofs.levels.uri_at.Goals as goal

pub returns : goal.returns
returns c = ap₂ span c.space_at.ensures c.space_at-2.ensures
