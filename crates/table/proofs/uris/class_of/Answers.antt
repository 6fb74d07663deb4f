-- `table::uris::class_of` meets its contract.
use mathlib.Core.Path.{◌∙◌, sym}
use borrow.Author.Tests.{eqb-true, eqb-false}
use Rattle.table.proofs.UriTurns.{class_none, class_xml, class_listed}
use Rattle.table.proofs.uris.class_of.Goals as goal

pub returns-then-is_empty : goal.returns-then-is_empty
returns-then-is_empty c = class_none c.args.table.now c.args.header _ (eqb-true _ _ (sym c.is_empty.ensures ∙ c.if-is_empty.true))

pub returns-then-is_xml_uri : goal.returns-then-is_xml_uri
returns-then-is_xml_uri c = class_xml c.args.table.now c.args.header _ (eqb-false _ _ (sym c.is_empty.ensures ∙ c.if-is_empty.false)) _ c.is_xml_uri.ensures c.if-is_xml_uri.true

pub returns-else-is_xml_uri : goal.returns-else-is_xml_uri
returns-else-is_xml_uri c =
    class_listed _ _ _ c.behind_rules.ensures _ (eqb-false _ _ (sym c.is_empty.ensures ∙ c.if-is_empty.false)) _ c.is_xml_uri.ensures c.if-is_xml_uri.false _ c.listed_from.ensures
