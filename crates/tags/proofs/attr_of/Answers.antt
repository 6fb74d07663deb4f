-- `tags::attr_of` meets its contract: each number is that of its place.
use borrow.Author.Rules.{rules}
use Rattle.lexer.specs.Attrs.{attr_in}
use Rattle.lexer.proofs.Arrays.{attr_past}
use Rattle.tags.proofs.attr_of.Goals as goal

pub returns-then-k-ge16 : goal.returns-then-k-ge16
returns-then-k-ge16 c = attr_past _ _ (search rules) c.if-k-ge16.true

pub returns : goal.returns
unfolding attr_in
returns c = search rules
