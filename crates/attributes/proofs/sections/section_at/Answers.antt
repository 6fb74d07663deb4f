-- `attributes::sections::section_at` meets its contract: a number behind the attributes.
use mathlib.Core.Path.{sym}
use lib.Seq.{get_or-drop}
use Rattle.attributes.proofs.sections.section_at.Goals as goal

pub returns : goal.returns
returns c = sym (get_or-drop 128 c.args.attributes.now c.args.k 0)
