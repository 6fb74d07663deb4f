-- N3: "A run's events, number and place, but that it may stop earlier by 24 or 25": where the output has room. Definitions.
use Rattle.std.specs.Prelude.{ℕ, ◌<◌, ◌≡◌, List}
use Rattle.table.specs.Table.{standard, former, decode_by}
use Rattle.demands.specs.Limits.{events_within, run_end}

-- a run takes as many events under both defaults, and ends with the same number at the same place
pub record EndsSame (t s : List ℕ) : Type 0 where
  pub events : events_within (decode_by standard t) s ≡ events_within (decode_by former t) s
  pub end : run_end (decode_by standard t) s ≡ run_end (decode_by former t) s

-- it ends earlier, by 24
pub record EndsEarlier (t s : List ℕ) : Type 0 where
  pub fewer : events_within (decode_by standard t) s < events_within (decode_by former t) s
  pub number : (run_end (decode_by standard t) s).number ≡ 24
