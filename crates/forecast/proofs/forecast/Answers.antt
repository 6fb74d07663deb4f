-- `forecast::forecast` meets its contract.
use mathlib.Core.Path.{ap, ◌∙◌}
use mathlib.Core.List.{[]}
use Rattle.table.specs.Index.{index_of}
use Rattle.advances.proofs.RunTurns.{then_accepted}
use Rattle.forecast.proofs.ForecastWays.{then_refused, then_long, then_figures}
use Rattle.forecast.proofs.forecast.Goals as goal

pub returns-then-judged-ne0 : goal.returns-then-judged-ne0
returns-then-judged-ne0 c = then_refused _ _ c.judge-judged.result c.judge-judged.ensures _ c.if-judged-ne0.true c.none_taken.ensures

pub returns-then-scene-gt-LONGEST : goal.returns-then-scene-gt-LONGEST
returns-then-scene-gt-LONGEST c = then_long _ _ c.judge-judged.result c.judge-judged.ensures _ c.if-judged-ne0.false c.if-scene-gt-LONGEST.true c.none_taken-then-scene-gt-LONGEST.ensures

pub figures_of-requires : goal.figures_of-requires
figures_of-requires c =
    (then_accepted _ [] c.judge-judged.result c.judge-judged.ensures c.if-judged-ne0.false, c.load-index.ensures ∙ ap (index_of _) c.header_of.ensures, c.if-scene-gt-LONGEST.false)

pub returns : goal.returns
returns c = then_figures _ _ c.judge-judged.result c.judge-judged.ensures _ c.if-judged-ne0.false c.if-scene-gt-LONGEST.false c.figures_of.ensures
