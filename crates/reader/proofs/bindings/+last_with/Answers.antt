-- `reader::bindings::last_with` meets its contract: the number of bindings left falls.
use mathlib.Core.Path.{refl}
use Rattle.reader.proofs.Seek.{look_none, look_turn}
use Rattle.reader.proofs.bindings.+last_with.Goals as goal

pub returns-then-left-eq0 : goal.returns-then-left-eq0
returns-then-left-eq0 t c = look_none _ _ _ _ c.if-left-eq0.true

pub returns-then-is_prefix : goal.returns-then-is_prefix
returns-then-is_prefix t c =
    let a = c.args in
    look_turn a.s.now a.bindings.now a.left a.prefix.now c.is_prefix.result _ c.if-left-eq0.false c.is_prefix.ensures (rw c.if-is_prefix.true refl)

pub returns-else-is_prefix : goal.returns-else-is_prefix
returns-else-is_prefix t c =
    let a = c.args in
    look_turn a.s.now a.bindings.now a.left a.prefix.now c.is_prefix.result _ c.if-left-eq0.false c.is_prefix.ensures (rw c.if-is_prefix.false c.last_with.ensures)
