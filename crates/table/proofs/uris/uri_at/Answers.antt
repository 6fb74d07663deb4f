-- `table::uris::uri_at` meets its contract.
use mathlib.Core.Path.{◌∙◌}
use Rattle.table.proofs.Walk.{uri_past, uri_cut, uri_whole}
use Rattle.table.proofs.uris.uri_at.Goals as goal

pub returns-in_err-get : goal.returns-in_err-get
returns-in_err-get c = let e = c.in_err-get.ensures in c.from_residual.ensures ∙ uri_past _ _ e.lookup.3

pub returns-then-len-table : goal.returns-then-len-table
returns-then-len-table c = let e = c.in_ok-get.ensures in uri_whole _ _ _ (c.from-len.ensures ∙ e.lookup.3.1 0) e.lookup.3.0 c.if-len-table.true

pub returns-else-len-table : goal.returns-else-len-table
returns-else-len-table c = let e = c.in_ok-get.ensures in uri_cut _ _ _ (c.from-len.ensures ∙ e.lookup.3.1 0) e.lookup.3.0 c.if-len-table.false
