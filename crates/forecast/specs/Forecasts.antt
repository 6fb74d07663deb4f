-- N2: "For a table and scene, work out the record count, the unit count, the greatest number of strands at an open level and the deepest level without
-- any output buffer." By the reader and the model alone: no session or step comes into it. Definitions.
use Rattle.std.specs.Prelude.{ℕ, zero, suc, List, [], ◌∷◌, map, cond, not, length, take, ltb, eqb}
use Rattle.laws.specs.Gather.{gather}
use Rattle.table.specs.Table.{Table, Defaults, decode_by}
use Rattle.table.specs.Judge.{judged}
use Rattle.reader.specs.Events.{events}
use Rattle.model.specs.Model.{units_opened, cut_model}
use Rattle.model.specs.Dispatch.{dispatch, told}
use Rattle.sessions.specs.Stepping.{longest}
use Rattle.demands.specs.Scenes.{model_count}
use Rattle.demands.specs.Limits.{depth_at, strands_at, events_within, run_end}
use Rattle.forecast.specs.declared.figures.Forecast.{Forecast}

-- the greater of two numbers
abbrev pub greater_of : ℕ → ℕ → ℕ
greater_of a b = cond (ltb a b) b a

-- the greatest of a figure of the first so many events; without any 0
unfoldable pub greatest : (ℕ → ℕ) → ℕ → ℕ
greatest f zero = 0
greatest f (suc k) = greater_of (greatest f k) (f k)

-- "the unit count": the opens among the model's records of the first so many events, as `model_count` counts these
unfoldable pub unit_count : Table → List ℕ → ℕ → ℕ
unit_count t s k = length (units_opened (gather (λ x. x) (cut_model (dispatch t) (map (told t s) (take k (events s))))))

-- "with number and place, must equal those of a run with an output that suffices, up to where it stops": of an accepted table, the events before the
-- first that passes a limit. "the greatest number of strands at an open level": of the strands that `assign` gives these events' elements.
-- "the deepest level": the most elements open behind one of them
unfoldable pub figures_of : Table → List ℕ → Forecast
figures_of t s =
    record {
      number = (run_end t s).number;
      place = (run_end t s).place;
      records = model_count t s (events_within t s);
      units = unit_count t s (events_within t s);
      strands = greatest (strands_at t s) (events_within t s);
      depth = greatest (depth_at t s) (events_within t s);
    }

-- no event was taken
abbrev pub no_figures : ℕ → ℕ → Forecast
no_figures number place = record { number = number; place = place; records = 0; units = 0; strands = 0; depth = 0 }

-- "Order: 10 short, 11 header, 10, 11, 12, 7"; then the events, under these defaults
unfoldable pub forecast_of : Defaults → List ℕ → List ℕ → Forecast
forecast_of d table s =
    cond (not (eqb (judged table).number 0)) (no_figures (judged table).number (judged table).place)
    (cond (ltb longest (length s)) (no_figures 7 0) (figures_of (decode_by d table) s))

-- for hosts: "number, place, records, units, strands, depth"
abbrev pub figure_numbers : Forecast → List ℕ
figure_numbers f = f.number ∷ f.place ∷ f.records ∷ f.units ∷ f.strands ∷ f.depth ∷ []
