-- `attributes::sections::found_at` meets its contract: the last of eight numbers.
use mathlib.Core.Path.{sym, ap, ◌∙◌}
use native.Mathlib.Omega.{arith}
use Rattle.reader.specs.Stored.{found_in}
use Rattle.attributes.specs.Attributes.{Given, given_in}
use Rattle.attributes.proofs.HeldParts.{same_given}
use Rattle.attributes.proofs.sections.found_at.Goals as goal

pub returns : goal.returns
unfolding given_in
returns c =
    let a = c.args in
    c.found_in.ensures ∙ ap (λ (g : Given). found_in g.code) (sym (same_given a.attributes.now a.k (omega arith)))
