-- `put8` lays a word's bytes.
use mathlib.Core.Path.{ap, ◌∙◌}
use Rattle.laws.specs.Over.{overwrite}
use Rattle.records.specs.Rows.{bytes8}
use Rattle.records.proofs.put8.Goals as goal

pub returns : goal.returns
unfolding bytes8
returns c = c.lay.ensures ∙ ap (overwrite c.args.out.now c.args.at) c.to_be_bytes.ensures
