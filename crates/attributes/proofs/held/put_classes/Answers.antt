-- `attributes::held::put_classes` meets its contract: after each turn one more class is laid.
use mathlib.Core.Path.{ap, ◌∙◌}
use native.Mathlib.Omega.{arith}
use Rattle.table.specs.Table.{Table, table_of, class_of}
use Rattle.reader.specs.declared.Binding.{Binding}
use Rattle.reader.specs.Spans.{bytes_of}
use Rattle.attributes.proofs.Known.{classes_none, classes_put}
use Rattle.attributes.proofs.held.put_classes.Goals as goal

pub loop-k-init : goal.loop-k-init
loop-k-init c = let a = c.args in classes_none (table_of a.table.now a.header) a.s.now a.bindings.now _ a.from

pub loop-k-preserved : goal.loop-k-preserved
loop-k-preserved c =
    let a = c.args in
    let l = c.loop-k in
    let t : Table = table_of a.table.now a.header in
    let e = c.from.ensures ∙ c.class_of-class.ensures ∙ ap (class_of t) c.part_of.ensures.bytes ∙ ap (λ (b : Binding). class_of t (bytes_of a.s.now b.uri)) c.binding_in-b.ensures in
    classes_put t a.s.now a.bindings.now _ a.from l.known l.k c.from.result l.invariant (omega arith) e
