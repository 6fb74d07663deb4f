-- `scopes::colon_end` meets its contract, by the first colon's place.
use Rattle.std.proofs.Common.{◌≡◌, sym, ◌∙◌, rules, tests, position}
use Rattle.std.proofs.lemmas.Iterator.{YieldsList-from_slice}
use Rattle.std.proofs.lemmas.Iterator.Search.{position_from_yields_List}
use Rattle.reader.proofs.Colons.{is_colon, colon_at, no_colon}
use Rattle.reader.proofs.scopes.colon_end.Goals.{After-position}
use Rattle.reader.proofs.scopes.colon_end.Goals as goal

found : (c : After-position) → c.position.result ≡ position is_colon c.args.name.now
found c = position_from_yields_List is_colon _ _ c.position.result c.position.ensures.ran (YieldsList-from_slice _ c.iter.ensures.rest) (λ x b q k. search (rules, tests))

pub returns-in-Some : goal.returns-in-Some
returns-in-Some c = colon_at _ _ (sym c.in-Some.is ∙ found (goal.at.returns-in-Some c).After-position)

pub returns-in-None : goal.returns-in-None
returns-in-None c = no_colon _ (sym c.in-None.is ∙ found (goal.at.returns-in-None c).After-position)
