-- `strands::counts::class_at` meets its contract.
use mathlib.Core.Path.{refl, ap, ◌∙◌}
use native.Mathlib.Omega.{arith}
use Rattle.attributes.specs.Attributes.{Sorted}
use Rattle.attributes.proofs.HeldParts.{same_sorted}
use Rattle.strands.proofs.Counting.{class_of_lem}
use Rattle.strands.proofs.counts.class_at.Goals as goal

pub returns : goal.returns
returns c = λ sections.
    let a = c.args in
    class_of_lem a.attributes.now sections a.k _ refl ∙ ap (λ (x : Sorted). x.class) (same_sorted a.attributes.now sections a.k (omega arith))
