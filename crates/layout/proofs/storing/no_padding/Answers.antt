-- `layout::storing::no_padding` meets its contract.
use Rattle.std.proofs.Common.{ℕ, take, drop, eqb, ◌∙◌, rules, tests, arith}
use Rattle.std.proofs.lemmas.Iterator.{YieldsList-from_slice}
use Rattle.std.proofs.lemmas.Iterator.Search.{all_from_yields_List}
use Rattle.layout.proofs.Holding.{five_zero}
use Rattle.layout.proofs.storing.no_padding.Goals as goal

pub returns : goal.returns
returns c =
    let b = c.args.b.now in
    all_from_yields_List (λ (x : ℕ). eqb x 0) _ _ c.all.result c.all.ensures.ran (YieldsList-from_slice (take 5 (drop 3 b)) cc) (λ x r q k. search (rules, tests)) ∙ five_zero b (omega arith)
