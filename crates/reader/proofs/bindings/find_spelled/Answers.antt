-- `reader::bindings::find_spelled` meets its contract, at each way out.
use mathlib.Core.Path.{sym, ◌∙◌}
use Rattle.reader.proofs.Seek.{found_xml, spelled_own, spelled_open, open_some, open_none}
use Rattle.reader.proofs.bindings.find_spelled.Goals as goal

pub returns-then-same : goal.returns-then-same
returns-then-same c = search found_xml

pub returns-in-Some : goal.returns-in-Some
returns-in-Some c =
    let a = c.args in
    spelled_own a.s.now a.in_scope.own.now a.in_scope.owned a.in_scope.outer.now a.in_scope.bound a.prefix.now _ c.same.ensures c.if-same.false _ (rw (← c.min.ensures) c.look_up.ensures) _ c.in-Some.is

pub returns-in-Some-look_up : goal.returns-in-Some-look_up
returns-in-Some-look_up c =
    let a = c.args in
    spelled_open a.s.now a.in_scope.own.now a.in_scope.owned a.in_scope.outer.now a.in_scope.bound a.prefix.now _ c.same.ensures c.if-same.false _ (rw (← c.min.ensures) c.look_up.ensures) _ _ c.in_default.is
    (rw (← c.min-2.ensures) c.look_up-2.ensures) (λ n e. open_some _ _ n (sym c.in-Some-look_up.is ∙ e))

pub returns-in-None : goal.returns-in-None
returns-in-None c =
    let a = c.args in
    spelled_open a.s.now a.in_scope.own.now a.in_scope.owned a.in_scope.outer.now a.in_scope.bound a.prefix.now _ c.same.ensures c.if-same.false _ (rw (← c.min.ensures) c.look_up.ensures) _ _ c.in_default.is
    (rw (← c.min-2.ensures) c.look_up-2.ensures) (λ n e. open_none _ n _ (sym c.in-None.is ∙ e) c.undeclared.ensures)
