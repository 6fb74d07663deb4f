-- `tags::start_tag` meets its contract, by the cases of what its callees answer.
use Rattle.std.proofs.Common.{◌≡◌, ◌∙◌, Err, rules}
use Rattle.lexer.proofs.Filled.{named_tag, nameless_tag}
use Rattle.tags.proofs.start_tag.Goals as goal

pub returns-in_err-name : goal.returns-in_err-name
returns-in_err-name c =
    let e : c.from_residual.result ≡ Err c.in_err-name.field-0.0 = search rules in
    let r = nameless_tag _ _ _ c.name_at.ensures c.args.attrs.now _ c.in_err-name.was in
    (e ∙ r.0, r.1)

pub returns : goal.returns
returns c = named_tag _ _ _ c.name_at.ensures _ _ c.in_ok-name.was _ _ (c.attrs_from.ensures.answer, c.attrs_from.ensures.array)
