-- `values::furthest_at` meets its contract: the words are taken from the last to the first.
use native.Mathlib.Omega.{arith}
use mathlib.Core.List.{[]}
use Rattle.lexer.proofs.References.{furthest_more, furthest_none}
use Rattle.values.proofs.furthest_at.Goals as goal

pub returns : goal.returns
returns c =
    furthest_more _ _ _ _ _ _ c.common_at-4.ensures
    (furthest_more _ _ _ _ _ _ c.common_at-3.ensures
    (furthest_more _ _ _ _ _ _ c.common_at-2.ensures
    (furthest_more _ _ _ _ _ _ c.common_at.ensures
    (furthest_more _ _ [] _ _ _ c.common_at-apos.ensures (furthest_none _) (omega arith)) c.max-quot.ensures) c.max-amp.ensures) c.max-gt.ensures) c.max.ensures
