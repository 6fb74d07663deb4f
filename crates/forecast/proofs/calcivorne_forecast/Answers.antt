-- `forecast::calcivorne_forecast` meets its contract.
use mathlib.Core.Path.{ap}
use Rattle.forecast.specs.Forecasts.{figure_numbers}
use Rattle.forecast.specs.declared.figures.Forecast.{Forecast}
use Rattle.forecast.proofs.calcivorne_forecast.Goals as goal

pub returns : goal.returns
returns c =
    let e = c.forecast-f.ensures in record {
      value = ap (λ (f : Forecast). f.number) e;
      figures_after = ap figure_numbers e;
    }
