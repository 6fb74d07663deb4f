-- `reader::kinds::all_plain` meets its contract.
use Rattle.std.proofs.Common.{ℕ, refl, ◌∙◌, rules, tests}
use Rattle.std.proofs.lemmas.Iterator.{YieldsList-from_range}
use Rattle.std.proofs.lemmas.Iterator.Search.{all_from_yields_List}
use Rattle.lexer.specs.Attrs.{attr_in}
use Rattle.reader.specs.Known.{plain_attr}
use Rattle.reader.proofs.Plain.{all_ranged}
use Rattle.reader.proofs.kinds.all_plain.Goals as goal

pub returns : goal.returns
returns c =
    let plain = λ (i : ℕ). plain_attr c.args.s.now (attr_in c.args.attrs.now i) in
    all_from_yields_List plain _ _ c.all.result c.all.ensures.ran (YieldsList-from_range 0 _ _ refl refl) (λ x b q k. search (rules, tests))
    ∙ all_ranged _ _ _ _ c.min.ensures
