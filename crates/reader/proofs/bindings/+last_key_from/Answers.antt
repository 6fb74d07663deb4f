-- `reader::bindings::last_key_from` meets its contract: the number of keys left falls.
use Rattle.reader.proofs.KeySeek.{key_none, key_here, key_before}
use Rattle.reader.proofs.bindings.+last_key_from.Goals as goal

pub returns-then-left-eq0 : goal.returns-then-left-eq0
returns-then-left-eq0 t c = key_none _ _ _ c.if-left-eq0.true

pub returns-then-known-left : goal.returns-then-known-left
returns-then-known-left t c = key_here _ _ _ c.if-left-eq0.false c.if-known-left.true

pub returns-else-known-left : goal.returns-else-known-left
returns-else-known-left t c = key_before _ _ _ _ c.if-left-eq0.false c.if-known-left.false c.last_key_from.ensures
