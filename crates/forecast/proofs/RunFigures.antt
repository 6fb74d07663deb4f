-- The forecast's strands and depth are those of a run: the most of all the sessions that it goes through.
--     forecast_strands, forecast_depth
use Prim.Native.Nat.{ℕ, zero, suc, ◌+◌, ◌*◌, ◌-◌, ◌≤◌, ◌<◌}
use mathlib.Core.Path.{◌≡◌, refl, sym, ap, subst, ◌∙◌}
use mathlib.Core.List.{List, [], ◌∷◌, ◌++◌, tail}
use mathlib.Core.Bool.{Bool, true, false, cond}
use mathlib.Core.Logic.{⊎_elim}
use mathlib.Core.Option.{Option, none, some}
use native.Mathlib.Omega.{arith}
use lib.ListN.{length, length-map, get_or}
use lib.Dec.{eqb}
use Rattle.laws.specs.Reading.{le_or_lt}
use Rattle.table.specs.Table.{Table, decode, standard}
use Rattle.table.specs.Judge.{Accepted}
use Rattle.reader.specs.Events as scene
use Rattle.reader.specs.Events.{events}
use Rattle.reader.specs.Spans.{span}
use Rattle.model.specs.Elements.{element_of}
use Rattle.model.specs.Stream.{Level, State, Entry, entries_at, after}
use Rattle.model.specs.Dispatch.{dispatch, told}
use Rattle.model.proofs.Assigned.{modes_at}
use Rattle.sessions.specs.Sessions.{strand_count, level_in, levels_in, state_of, fresh_of}
use Rattle.sessions.specs.Stepping.{Step, step_of, advance_of, joined, rest_of, run_of}
use Rattle.sessions.specs.Session.{Session}
use Rattle.sessions.proofs.NewStrands.{new_length}
use Rattle.sessions.proofs.SoundCoherent.{strands_counted}
use Rattle.sessions.proofs.Room.{step_roomed}
use Rattle.sessions.proofs.Advancing.{advance_stopped}
use Rattle.demands.specs.Scenes.{model_count}
use Rattle.demands.specs.Limits.{depth_at, strands_at, first_past, WithinFirst, events_within}
use Rattle.demands.proofs.Measures.{stream_after, innermost, levels_length, depth_is, stream_on, strands_are, inner_strands}
use Rattle.demands.proofs.Reached.{reached_fresh, few_events}
use Rattle.demands.proofs.Limits.{taken_passed, FirstPast, first_past_lem, before_by, within_all}
use Rattle.demands.proofs.Advances.{advanced}
use Rattle.demands.proofs.Ends.{run_ends}
use Rattle.forecast.specs.Forecasts.{greater_of, greatest, figures_of, forecast_of}
use Rattle.forecast.specs.RunFigures.{run_session, run_strands, run_depth}
use Rattle.forecast.specs.declared.figures.Forecast.{Forecast}
use Rattle.forecast.proofs.Greatest.{greater_most, greater_least, greatest_few, greatest_most, same_greatest}
use Rattle.forecast.proofs.ForecastWays.{of_accepted}
use Rattle.forecast.proofs.Forecasts.{NoneTaken, way}

-- ---- the levels of a state
abbrev most : (t : Table) → List (Level (dispatch t)) → ℕ
most t [] = 0
most t (l ∷ ls) = greater_of (most t ls) (length l.strands)

inner_most : (t : Table) (ls : List (Level (dispatch t))) → innermost t ls ≤ most t ls
inner_most t [] = omega arith
inner_most t (l ∷ ls) = (greater_most (most t ls) (length l.strands)).1

tail_most : (t : Table) (ls : List (Level (dispatch t))) → most t (tail ls) ≤ most t ls
tail_most t [] = omega arith
tail_most t (l ∷ ls) = (greater_most (most t ls) (length l.strands)).0

-- of a session's
session_most : (t : Table) (s : List ℕ) (z : Session) (d : ℕ) → greatest (strand_count z) d ≡ most t (levels_in t s z d)
unfolding greatest levels_in level_in
session_most t s z zero = refl
session_most t s z (suc d) = ap (λ (n : ℕ). greater_of n (strand_count z d)) (session_most t s z d) ∙ ap (greater_of (most t (levels_in t s z d))) (sym (strands_counted z d))

module _ (t : Table) (s : List ℕ) where
  -- behind so many events
  abbrev strands_behind : ℕ → ℕ
  strands_behind k = most t (stream_after t s k).levels

  abbrev depth_behind : ℕ → ℕ
  depth_behind k = length (stream_after t s k).levels

  record Grown (k : ℕ) : Type 0 where
    pub low : strands_at t s k ≤ greater_of (strands_behind k) (strands_behind (suc k))
    pub high : strands_behind (suc k) ≤ greater_of (strands_behind k) (strands_at t s k)

  grown : (k : ℕ) → k < length (events s) → Grown k
  unfolding after
  grown k lt = by (get_or (events s) k d) (stream_on t s k lt d) (strands_are t s k lt d)
    where
      d : scene.Event
      d = scene.text (span 0 0)

      before : State (dispatch t)
      before = stream_after t s k

      by : (x : scene.Event) → stream_after t s (suc k) ≡ after (dispatch t) before (told t s x) → strands_at t s k ≡ length (modes_at (dispatch t) before (told t s x)) → Grown k
      by (scene.start x) q m =
          let es = entries_at (dispatch t) before.levels (element_of t s x) in
          let n : strands_at t s k ≡ length es = m ∙ length-map es (λ (y : Entry). y.strand.mode) in
          let behind : strands_behind (suc k) ≡ greater_of (strands_behind k) (strands_at t s k) = ap (λ (y : State (dispatch t)). most t y.levels) q ∙ ap (greater_of (strands_behind k)) (new_length t before (element_of t s x) ∙ sym n) in
          record { low = omega (arith, behind, (greater_most (strands_behind k) (strands_at t s k)).1, (greater_most (strands_behind k) (strands_behind (suc k))).1); high = omega (arith, behind) }
      by (scene.text v) q m =
          let behind : strands_behind (suc k) ≡ strands_behind k = ap (λ (y : State (dispatch t)). most t y.levels) q in
          let n : strands_at t s k ≡ innermost t before.levels = m ∙ (inner_strands t before.levels before.units v).0 in
          record {
            low = omega (arith, n, inner_most t before.levels, (greater_most (strands_behind k) (strands_behind (suc k))).0);
            high = omega (arith, behind, (greater_most (strands_behind k) (strands_at t s k)).0);
          }
      by (scene.end v at) q m =
          let behind : strands_behind (suc k) ≡ most t (tail before.levels) = ap (λ (y : State (dispatch t)). most t y.levels) q in
          let n : strands_at t s k ≡ innermost t before.levels = m ∙ (inner_strands t before.levels before.units v).1 in
          record {
            low = omega (arith, n, inner_most t before.levels, (greater_most (strands_behind k) (strands_behind (suc k))).0);
            high = omega (arith, behind, tail_most t before.levels, (greater_most (strands_behind k) (strands_at t s k)).0);
          }

  -- over the events and over the states behind them
  strands_behind_lem : (n : ℕ) → n ≤ length (events s) → greatest strands_behind (suc n) ≡ greatest (strands_at t s) n
  unfolding greatest
  strands_behind_lem zero le = refl
  strands_behind_lem (suc n) le =
      let i = strands_behind_lem n (omega arith) in
      let g = grown n le in
      let a = greatest strands_behind (suc n) in
      let here : strands_behind n ≤ a = greatest_most strands_behind (suc n) n (omega arith) in
      let up : greater_of a (strands_behind (suc n)) ≤ greater_of a (strands_at t s n) =
      greater_least a (strands_behind (suc n)) (greater_of a (strands_at t s n)) (greater_most a (strands_at t s n)).0
      (omega (arith, g.high, greater_least (strands_behind n) (strands_at t s n) (greater_of a (strands_at t s n)) (omega (arith, here, (greater_most a (strands_at t s n)).0)) (greater_most a (strands_at t s n)).1)) in
      let down : greater_of a (strands_at t s n) ≤ greater_of a (strands_behind (suc n)) =
      greater_least a (strands_at t s n) (greater_of a (strands_behind (suc n))) (greater_most a (strands_behind (suc n))).0
      (omega (arith, g.low, greater_least (strands_behind n) (strands_behind (suc n)) (greater_of a (strands_behind (suc n))) (omega (arith, here, (greater_most a (strands_behind (suc n))).0)) (greater_most a (strands_behind (suc n))).1)) in
      let same : greater_of a (strands_behind (suc n)) ≡ greater_of a (strands_at t s n) = omega arith in
      same ∙ ap (λ (x : ℕ). greater_of x (strands_at t s n)) i

  depth_behind_lem : (n : ℕ) → n ≤ length (events s) → greatest depth_behind (suc n) ≡ greatest (depth_at t s) n
  unfolding greatest
  depth_behind_lem zero le = refl
  depth_behind_lem (suc n) le =
      ap (λ (x : ℕ). greater_of x (depth_behind (suc n))) (depth_behind_lem n (omega arith)) ∙ ap (greater_of (greatest (depth_at t s) n)) (sym (depth_is t s n le))

  -- no event past a limit was taken
  within_most : (m : ℕ) → m ≤ length (events s) → WithinFirst t s m → m ≤ events_within t s
  unfolding events_within
  within_most m le w = by (first_past t s (length (events s)) 0) (first_past_lem t s)
    where
      by : (o : Option ℕ) → FirstPast t s o → m ≤ before_by s o
      by none f = le
      by (some k) f = ⊎_elim (λ h. h) (λ lt. absurd (f.1 (w k lt))) (le_or_lt m k)

-- ---- a run's steps
module _ (table s : List ℕ) where
  few_steps : (j : ℕ) (z : Session) (out : List ℕ) → (advance_of standard j table s z out).answer.events ≤ j
  unfolding advance_of
  few_steps zero z out = omega arith
  few_steps (suc j) z out = by (eqb r.answer.number 0) (few_steps j r.session (rest_of r))
    where
      r : Step
      r = step_of standard table s z out

      later : Step
      later = advance_of standard j table s r.session (rest_of r)

      by : (b : Bool) → later.answer.events ≤ j → (cond b (joined r later) r).answer.events ≤ suc j
      by true h = omega (arith, (step_roomed table s z out).one, h)
      by false h = omega (arith, (step_roomed table s z out).one)

module _ (table s out : List ℕ) (ok : Accepted table ≡ true) (short : length s ≤ 16777215) (room : 16 * model_count (decode table) s (events_within (decode table) s) ≤ length out) where
  abbrev t : Table
  t = decode table

  abbrev n : ℕ
  n = events_within t s

  -- the session behind j steps: behind so many events
  record Stands (j : ℕ) : Type 0 where
    pub count : ℕ
    pub few : count ≤ events_within (decode table) s
    pub all : j ≤ events_within (decode table) s → count ≡ j
    pub state : state_of (decode table) s (run_session table s out j) ≡ stream_after (decode table) s count

  full : (advance_of standard (2 * length s + 2) table s fresh_of out).answer.events ≡ n
  unfolding run_of
  full = (run_ends table s out ok short room).2

  n_few : n ≤ 2 * length s + 2
  n_few = omega (arith, full, few_steps table s (2 * length s + 2) fresh_of out)

  stands : (j : ℕ) → j < 2 * length s + 3 → Stands j
  stands j l =
      let a = advanced table s j fresh_of 0 [] (reached_fresh t s) out in
      let is : (advance_of standard j table s fresh_of out).answer.events ≡ a.events = ap (λ (r : Step). r.answer.events) a.is in
      let number : (advance_of standard j table s fresh_of out).answer.number ≡ a.number = ap (λ (r : Step). r.answer.number) a.is in
      let same : run_session table s out j ≡ a.session = ap (λ (r : Step). r.session) a.is in
      let k : ℕ = 0 + a.events in
      record {
        count = k;
        few = within_most t s k (few_events t s a.session k ([] ++ a.records) a.reached) (taken_passed table ok s a.session k ([] ++ a.records) a.reached);
        all = λ le.
            ⊎_elim
            (λ e. omega (arith, e.1))
            (λ r.
            let stops = advance_stopped j (2 * length s + 2 - j) table s fresh_of out (λ z. r.said.not_event (sym number ∙ z)) in
            let sum : j + (2 * length s + 2 - j) ≡ 2 * length s + 2 = omega arith in
            let so : n ≡ a.events = sym full ∙ ap (λ (i : ℕ). (advance_of standard i table s fresh_of out).answer.events) (sym sum) ∙ ap (λ (x : Step). x.answer.events) stops ∙ is in
            omega (arith, so, is, few_steps table s j fresh_of out))
            a.stop;
        state = ap (state_of t s) same ∙ a.reached.ran.state;
      }

  behind_strands : run_strands table s out ≡ greatest (strands_behind t s) (suc n)
  behind_strands =
      same_greatest (λ (j : ℕ). greatest (strand_count (run_session table s out j)) (run_session table s out j).scope.depth) (strands_behind t s) (2 * length s + 3) (suc n)
      (λ j l. let w = stands j l in (w.count, omega (arith, w.few), at j w.count w.state))
      (λ k l. let lt : k < 2 * length s + 3 = omega (arith, n_few) in let w = stands k lt in (k, lt, at k k (w.state ∙ ap (stream_after t s) (w.all (omega arith)))))
    where
      at : (j k : ℕ) → state_of t s (run_session table s out j) ≡ stream_after t s k → greatest (strand_count (run_session table s out j)) (run_session table s out j).scope.depth ≡ strands_behind t s k
      at j k e = session_most t s (run_session table s out j) (run_session table s out j).scope.depth ∙ ap (λ (y : State (dispatch t)). most t y.levels) e

  behind_depth : run_depth table s out ≡ greatest (depth_behind t s) (suc n)
  behind_depth =
      same_greatest (λ (j : ℕ). (run_session table s out j).scope.depth) (depth_behind t s) (2 * length s + 3) (suc n)
      (λ j l. let w = stands j l in (w.count, omega (arith, w.few), at j w.count w.state))
      (λ k l. let lt : k < 2 * length s + 3 = omega (arith, n_few) in let w = stands k lt in (k, lt, at k k (w.state ∙ ap (stream_after t s) (w.all (omega arith)))))
    where
      at : (j k : ℕ) → state_of t s (run_session table s out j) ≡ stream_after t s k → (run_session table s out j).scope.depth ≡ depth_behind t s k
      at j k e = sym (levels_length t s (run_session table s out j) (run_session table s out j).scope.depth) ∙ ap (λ (y : State (dispatch t)). length y.levels) e

  accepted_strands : run_strands table s out ≡ greatest (strands_at (decode table) s) (events_within (decode table) s)
  accepted_strands = behind_strands ∙ strands_behind_lem t s n (within_all t s)

  accepted_depth : run_depth table s out ≡ greatest (depth_at (decode table) s) (events_within (decode table) s)
  accepted_depth = behind_depth ∙ depth_behind_lem t s n (within_all t s)

-- ---- no event is taken
none_greatest : (f : ℕ → ℕ) (n : ℕ) → ((j : ℕ) → f j ≡ 0) → greatest f n ≡ 0
none_greatest f n h = let l = greatest_few f n 0 (λ k _. omega (arith, h k)) in omega arith

stays_fresh : (table s : List ℕ) (number place : ℕ) → NoneTaken table s number place → (out : List ℕ) (j : ℕ) → run_session table s out j ≡ fresh_of
unfolding advance_of
stays_fresh table s number place w out zero = refl
stays_fresh table s number place w out (suc j) = ap (λ (r : Step). r.session) (w.run (suc j) (omega arith) out)

-- ---- for every table, scene and output that suffices
abbrev SameOf : List ℕ → List ℕ → List ℕ → Forecast → Type 0
SameOf table s out f = (run_strands table s out ≡ f.strands) × (run_depth table s out ≡ f.depth)

forecast_levels : (table s out : List ℕ) → 16 * (forecast_of standard table s).records ≤ length out → SameOf table s out (forecast_of standard table s)
unfolding figures_of greatest
forecast_levels table s out = ⊎_elim (λ w. none_taken w.0 w.1 w.2) (λ w. taken w.0 w.1) (way table s)
  where
    none_taken : (number place : ℕ) → NoneTaken table s number place → 16 * (forecast_of standard table s).records ≤ length out → SameOf table s out (forecast_of standard table s)
    none_taken number place w room =
        let fresh = stays_fresh table s number place w out in
        subst (SameOf table s out) (sym w.is) (
          none_greatest _ (2 * length s + 3) (λ j. ap (λ (z : Session). greatest (strand_count z) z.scope.depth) (fresh j)),
          none_greatest _ (2 * length s + 3) (λ j. ap (λ (z : Session). z.scope.depth) (fresh j)),
        )

    taken : Accepted table ≡ true → length s ≤ 16777215 → 16 * (forecast_of standard table s).records ≤ length out → SameOf table s out (forecast_of standard table s)
    taken ok short room =
        let f = of_accepted table s ok short in
        let r : 16 * model_count (decode table) s (events_within (decode table) s) ≤ length out = subst (λ (x : Forecast). 16 * x.records ≤ length out) f room in
        subst (SameOf table s out) (sym f) (accepted_strands table s out ok short r, accepted_depth table s out ok short r)

pub forecast_strands : (table s out : List ℕ) → 16 * (forecast_of standard table s).records ≤ length out → run_strands table s out ≡ (forecast_of standard table s).strands
forecast_strands table s out room = (forecast_levels table s out room).0

pub forecast_depth : (table s out : List ℕ) → 16 * (forecast_of standard table s).records ≤ length out → run_depth table s out ≡ (forecast_of standard table s).depth
forecast_depth table s out room = (forecast_levels table s out room).1
