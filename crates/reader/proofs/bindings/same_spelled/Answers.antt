-- `reader::bindings::same_spelled` meets its contract: lists that are the same have the same last eight.
use Rattle.reader.proofs.Seek.{words_apart}
use Rattle.reader.proofs.bindings.same_spelled.Goals as goal

pub returns-then-word_at : goal.returns-then-word_at
returns-then-word_at c = words_apart _ _ _ _ _ c.word_at.ensures.number c.word_at-then-n-ge8.ensures.number c.if-word_at.true
