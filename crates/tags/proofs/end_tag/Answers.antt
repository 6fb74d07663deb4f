-- `tags::end_tag` meets its contract, by the cases of what its callees answer.
use Rattle.std.proofs.Common.{rules}
use Rattle.lexer.specs.Tags.{end_tag_at}
use Rattle.tags.proofs.end_tag.Goals as goal

pub returns-in_err-name : goal.returns-in_err-name
unfolding end_tag_at
returns-in_err-name c = rw (← c.in_err-name.ensures) (search rules)

pub returns-in_err-i : goal.returns-in_err-i
unfolding end_tag_at
returns-in_err-i c = rw (← c.in_ok-name.ensures, ← c.in_err-i.ensures) (search rules)

pub returns-in_err-next : goal.returns-in_err-next
unfolding end_tag_at
returns-in_err-next c = rw (← c.in_ok-name.ensures, ← c.in_ok-i.ensures, ← c.in_err-next.ensures) (search rules)

pub returns : goal.returns
unfolding end_tag_at
returns c = rw (← c.in_ok-name.ensures, ← c.in_ok-i.ensures, ← c.in_ok-next.ensures)
