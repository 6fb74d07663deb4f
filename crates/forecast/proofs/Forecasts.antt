-- The forecast and the run, for every table and scene.
--     forecast_run        with an output that suffices a run has the forecast's number, place and records
--     forecast_short      with a shorter one it gives 25
--     forecast_number     the number is neither 0 nor 20 nor 25
--     forecast_units      with an output that suffices the session behind a run's steps has opened as many units
--     forecast_limits     at most 65,536 units, 16 strands at an open level, 64 levels
use Prim.Native.Nat.{ℕ, ◌+◌, ◌*◌, ◌≤◌, ◌<◌}
use mathlib.Core.Path.{◌≡◌, refl, sym, ap, subst, ◌∙◌}
use mathlib.Core.List.{List, []}
use mathlib.Core.Bool.{Bool, true, false}
use mathlib.Core.Logic.{◌⊎◌, inl, inr, ⊎_elim}
use mathlib.Core.Option.{Option, none, some}
use native.Mathlib.Omega.{arith}
use borrow.Author.Tests.{eqb-true, eqb-false}
use lib.ListN.{length, replicate, length-replicate}
use lib.Dec.{eqb}
use Rattle.laws.specs.Reading.{le_or_lt}
use Rattle.table.specs.Table.{Table, decode, standard}
use Rattle.table.specs.Judge.{judged, Accepted}
use Rattle.table.specs.declared.Answer.{Answer}
use Rattle.reader.specs.Events as scene
use Rattle.reader.specs.Events.{fresh_reader, events, last_of}
use Rattle.reader.specs.Spans.{span}
use Rattle.reader.proofs.Held.{held_fresh, numbered}
use Rattle.reader.proofs.EventsFirst.{state_after, state_held, events_end}
use Rattle.sessions.specs.Sessions.{fresh_of}
use Rattle.sessions.specs.Session.{Session}
use Rattle.sessions.specs.Stepping.{given, Step, answered, advance_of, Run, run_of}
use Rattle.advances.proofs.RunTurns.{advance_refused, advance_too_long}
use Rattle.demands.specs.Scenes.{model_count}
use Rattle.demands.specs.Limits.{depth_at, strands_at, first_past, events_within, read_end, run_end}
use Rattle.demands.specs.Answers as step
use Rattle.demands.specs.Answers.{Answered}
use Rattle.demands.proofs.Goes.{goes_on}
use Rattle.demands.proofs.Refusals.{answered_by}
use Rattle.demands.proofs.Reached.{reached_fresh}
use Rattle.demands.proofs.Limits.{passed_number, passed_none, FirstPast, first_past_lem, end_by, within_first}
use Rattle.demands.proofs.Advances.{advanced}
use Rattle.demands.proofs.Runs.{scenes}
use Rattle.demands.proofs.Ends.{run_ends, run_full}
use Rattle.forecast.specs.Forecasts.{unit_count, no_figures, figures_of, forecast_of}
use Rattle.forecast.specs.declared.figures.Forecast.{Forecast}
use Rattle.forecast.proofs.Greatest.{greatest_few}
use Rattle.forecast.proofs.Figured.{units_counted}
use Rattle.forecast.proofs.ForecastWays.{of_refused, of_long, of_accepted}

-- ---- a table that judge refuses, a scene that is too long, and the rest
-- neither has an event: the run's answer is the forecast
pub record NoneTaken (table s : List ℕ) (number place : ℕ) : Type 0 where
  pub is : forecast_of standard table s ≡ no_figures number place
  pub not_0 : number ≡ 0 → ⊥
  pub few : number ≤ 12
  pub run : (n : ℕ) → 0 < n → (out : List ℕ) → advance_of standard n table s fresh_of out ≡ given (answered number place 0 0) fresh_of out

abbrev pub Way : List ℕ → List ℕ → Type 0
Way table s = ((number : ℕ) × (place : ℕ) × NoneTaken table s number place) ⊎ ((Accepted table ≡ true) × (length s ≤ 16777215))

judged_few : {table s out : List ℕ} {z : Session} {r : Step} → Answered table s z out r → (judged table).number ≤ 12
judged_few (step.bad_table a b) = b
judged_few (step.long_scene a l) = omega arith
judged_few (step.bad_session a l c) = omega arith
judged_few (step.unread r n p q a b) = omega (arith, r.accepted)
judged_few (step.all_read r p q) = omega (arith, r.accepted)
judged_few (step.limited r e o q n l a b) = omega (arith, r.accepted)
judged_few (step.no_room r p rs z'' q l) = omega (arith, r.accepted)
judged_few (step.wrote r p rs z'' q l) = omega (arith, r.accepted)

pub way : (table s : List ℕ) → Way table s
way table s = by (eqb (judged table).number 0) refl
  where
    refused : ((judged table).number ≡ 0 → ⊥) → NoneTaken table s (judged table).number (judged table).place
    refused n =
        record {
          is = of_refused table s n;
          not_0 = n;
          few = judged_few (answered_by table s fresh_of []);
          run = λ k l out. sym (advance_refused table s (judged table) refl k l fresh_of out _ n refl);
        }

    long : (judged table).number ≡ 0 → 16777215 < length s → NoneTaken table s 7 0
    long e h =
        record {
          is = of_long table s e h;
          not_0 = λ q. absurd (omega arith);
          few = omega arith;
          run = λ k l out. sym (advance_too_long table s (judged table) refl k l fresh_of out _ e h refl);
        }

    by : (b : Bool) → eqb (judged table).number 0 ≡ b → Way table s
    by false q = inl ((judged table).number, (judged table).place, refused (eqb-false (judged table).number 0 q))
    by true q = ⊎_elim (λ le. inr (q, le)) (λ lt. inl (7, 0, long (eqb-true (judged table).number 0 q) lt)) (le_or_lt (length s) 16777215)

none_run : (table s : List ℕ) (number place : ℕ) → NoneTaken table s number place → (out : List ℕ) → (run_of standard table s out).answer ≡ answered number place 0 0
unfolding run_of
none_run table s number place w out = ap (λ (r : Step). r.answer) (w.run (2 * length s + 2) (omega arith) out)

-- ---- the run
abbrev SameIn : Answer → Forecast → Type 0
SameIn a f = (a.number ≡ f.number) × (a.place ≡ f.place) × (a.records ≡ f.records)

pub forecast_run : (table s out : List ℕ) → 16 * (forecast_of standard table s).records ≤ length out →
    ((run_of standard table s out).answer.number ≡ (forecast_of standard table s).number) × ((run_of standard table s out).answer.place ≡ (forecast_of standard table s).place) × ((run_of standard table s out).answer.records ≡ (forecast_of standard table s).records)
unfolding figures_of
forecast_run table s out = ⊎_elim (λ w. none_taken w.0 w.1 w.2) (λ w. taken w.0 w.1) (way table s)
  where
    none_taken : (number place : ℕ) → NoneTaken table s number place → 16 * (forecast_of standard table s).records ≤ length out → SameIn (run_of standard table s out).answer (forecast_of standard table s)
    none_taken number place w room = subst (SameIn (run_of standard table s out).answer) (sym w.is) (let r = none_run table s number place w out in (ap (λ (a : Answer). a.number) r, ap (λ (a : Answer). a.place) r, ap (λ (a : Answer). a.records) r))

    taken : Accepted table ≡ true → length s ≤ 16777215 → 16 * (forecast_of standard table s).records ≤ length out → SameIn (run_of standard table s out).answer (forecast_of standard table s)
    taken ok short room =
        let f = of_accepted table s ok short in
        let r = run_ends table s out ok short (subst (λ (x : Forecast). 16 * x.records ≤ length out) f room) in
        subst (SameIn (run_of standard table s out).answer) (sym f) (r.0, r.1, (scenes table s out).counted ∙ ap (model_count (decode table) s) r.2)

pub forecast_short : (table s out : List ℕ) → length out < 16 * (forecast_of standard table s).records → (run_of standard table s out).answer.number ≡ 25
unfolding figures_of
forecast_short table s out = ⊎_elim (λ w. none_taken w.0 w.1 w.2) (λ w. taken w.0 w.1) (way table s)
  where
    none_taken : (number place : ℕ) → NoneTaken table s number place → length out < 16 * (forecast_of standard table s).records → (run_of standard table s out).answer.number ≡ 25
    none_taken number place w short = absurd (omega (arith, ap (λ (f : Forecast). f.records) w.is))

    taken : Accepted table ≡ true → length s ≤ 16777215 → length out < 16 * (forecast_of standard table s).records → (run_of standard table s out).answer.number ≡ 25
    taken ok short full =
        let r = run_full table s out ok short (subst (λ (x : Forecast). length out < 16 * x.records) (of_accepted table s ok short) full) (scene.text (span 0 0)) in
        ap (λ (x : Run). x.answer.number) r.4

-- ---- the number
abbrev Ends : ℕ → Type 0
Ends n = (n ≡ 0 → ⊥) × (n ≡ 20 → ⊥) × (n ≡ 25 → ⊥)

-- as reading ends
read_number : (s : List ℕ) → Ends (read_end (last_of s)).number
read_number s = by (last_of s) w.2
  where
    w : (z : scene.ReaderState) × (state_after (length (events s)) s fresh_reader ≡ some z) × (scene.next s z ≡ last_of s)
    w = events_end s

    by : (x : scene.Next) → scene.next s w.0 ≡ x → Ends (read_end x).number
    by (scene.event e z') q = absurd (omega (arith, (goes_on s (length (events s)) w.0 e z' w.1 q).inside))
    by (scene.refusal n p) q =
        let i = numbered s w.0 (state_held s w.0 (length (events s)) fresh_reader w.1 (held_fresh s)) n p q in
        (λ e. absurd (omega (arith, i.some)), λ e. absurd (omega (arith, i.few)), λ e. absurd (omega (arith, i.few)))
    by (scene.finished p) q = (λ e. absurd (omega arith), λ e. absurd (omega arith), λ e. absurd (omega arith))

end_number : (t : Table) (s : List ℕ) → Ends (run_end t s).number
unfolding run_end
end_number t s = by (first_past t s (length (events s)) 0) (first_past_lem t s)
  where
    by : (o : Option ℕ) → FirstPast t s o → Ends (end_by t s o).number
    by none f = read_number s
    by (some k) f = let i = passed_number t s k f.1 in (f.1, λ e. absurd (omega (arith, i.0)), λ e. absurd (omega (arith, i.1)))

pub forecast_number : (table s : List ℕ) → ((forecast_of standard table s).number ≡ 0 → ⊥) × ((forecast_of standard table s).number ≡ 20 → ⊥) × ((forecast_of standard table s).number ≡ 25 → ⊥)
unfolding figures_of
forecast_number table s = ⊎_elim (λ w. none_taken w.0 w.1 w.2) (λ w. taken w.0 w.1) (way table s)
  where
    none_taken : (number place : ℕ) → NoneTaken table s number place → Ends (forecast_of standard table s).number
    none_taken number place w = subst (λ (f : Forecast). Ends f.number) (sym w.is) (w.not_0, λ e. absurd (omega (arith, w.few)), λ e. absurd (omega (arith, w.few)))

    taken : Accepted table ≡ true → length s ≤ 16777215 → Ends (forecast_of standard table s).number
    taken ok short = subst (λ (f : Forecast). Ends f.number) (sym (of_accepted table s ok short)) (end_number (decode table) s)

-- ---- units
-- the session behind the run's steps
module _ (table s out : List ℕ) (ok : Accepted table ≡ true) (short : length s ≤ 16777215) (room : 16 * model_count (decode table) s (events_within (decode table) s) ≤ length out) where
  abbrev behind : Step
  behind = advance_of standard (2 * length s + 2) table s fresh_of out

  behind_units : (behind.session.units ≡ unit_count (decode table) s (events_within (decode table) s)) × (behind.session.units ≤ 65536)
  unfolding run_of
  behind_units =
      let a = advanced table s (2 * length s + 2) fresh_of 0 [] (reached_fresh (decode table) s) out in
      let all : 0 + a.events ≡ events_within (decode table) s = omega (arith, ap (λ (r : Step). r.answer.events) a.is, (run_ends table s out ok short room).2) in
      let same : behind.session.units ≡ a.session.units = ap (λ (r : Step). r.session.units) a.is in
      (same ∙ units_counted (decode table) s a.session (0 + a.events) a.records a.reached ∙ ap (unit_count (decode table) s) all, omega (arith, same, a.reached.sound.few_units))

pub forecast_units : (table s out : List ℕ) → 16 * (forecast_of standard table s).records ≤ length out → (advance_of standard (2 * length s + 2) table s fresh_of out).session.units ≡ (forecast_of standard table s).units
unfolding figures_of
forecast_units table s out = ⊎_elim (λ w. none_taken w.0 w.1 w.2) (λ w. taken w.0 w.1) (way table s)
  where
    none_taken : (number place : ℕ) → NoneTaken table s number place → 16 * (forecast_of standard table s).records ≤ length out → (advance_of standard (2 * length s + 2) table s fresh_of out).session.units ≡ (forecast_of standard table s).units
    none_taken number place w room = ap (λ (r : Step). r.session.units) (w.run (2 * length s + 2) (omega arith) out) ∙ sym (ap (λ (f : Forecast). f.units) w.is)

    taken : Accepted table ≡ true → length s ≤ 16777215 → 16 * (forecast_of standard table s).records ≤ length out → (advance_of standard (2 * length s + 2) table s fresh_of out).session.units ≡ (forecast_of standard table s).units
    taken ok short room =
        let f = of_accepted table s ok short in
        (behind_units table s out ok short (subst (λ (x : Forecast). 16 * x.records ≤ length out) f room)).0 ∙ sym (ap (λ (x : Forecast). x.units) f)

-- ---- limits
abbrev Few : Forecast → Type 0
Few f = (f.units ≤ 65536) × (f.strands ≤ 16) × (f.depth ≤ 64)

pub forecast_limits : (table s : List ℕ) → ((forecast_of standard table s).units ≤ 65536) × ((forecast_of standard table s).strands ≤ 16) × ((forecast_of standard table s).depth ≤ 64)
unfolding figures_of
forecast_limits table s = ⊎_elim (λ w. none_taken w.0 w.1 w.2) (λ w. taken w.0 w.1) (way table s)
  where
    none_taken : (number place : ℕ) → NoneTaken table s number place → Few (forecast_of standard table s)
    none_taken number place w = subst Few (sym w.is) (omega arith, omega arith, omega arith)

    taken : Accepted table ≡ true → length s ≤ 16777215 → Few (forecast_of standard table s)
    taken ok short =
        let t = decode table in
        let n = events_within t s in
        let out : List ℕ = replicate (16 * model_count t s n) 0 in
        let u = behind_units table s out ok short (omega (arith, length-replicate {A = ℕ} (16 * model_count t s n) 0)) in
        subst Few (sym (of_accepted table s ok short)) (
          omega (arith, u.0, u.1),
          greatest_few (strands_at t s) n 16 (λ k l. (passed_none t s k (within_first t s k l)).1),
          greatest_few (depth_at t s) n 64 (λ k l. (passed_none t s k (within_first t s k l)).0),
        )
