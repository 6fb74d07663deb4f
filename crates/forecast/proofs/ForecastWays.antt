-- The ways out of `forecast`.
use Prim.Native.Nat.{ℕ, ◌≤◌, ◌<◌}
use mathlib.Core.Path.{◌≡◌, sym, ap, ◌∙◌}
use mathlib.Core.List.{List}
use mathlib.Core.Bool.{true}
use borrow.Author.Tests.{eq-eqb, ne_eqb, lt-ltb, le-ltb}
use lib.ListN.{length}
use Rattle.table.specs.Table.{decode, standard}
use Rattle.table.specs.Judge.{judged, Accepted}
use Rattle.table.specs.declared.Answer.{Answer}
use Rattle.forecast.specs.Forecasts.{no_figures, figures_of, forecast_of}
use Rattle.forecast.specs.declared.figures.Forecast.{Forecast}

module _ (table s : List ℕ) where
  pub of_refused : ((judged table).number ≡ 0 → ⊥) → forecast_of standard table s ≡ no_figures (judged table).number (judged table).place
  unfolding forecast_of
  of_refused n = rw (ne_eqb (judged table).number 0 n)

  pub of_long : (judged table).number ≡ 0 → 16777215 < length s → forecast_of standard table s ≡ no_figures 7 0
  unfolding forecast_of
  of_long e h = rw (eq-eqb (judged table).number 0 e, lt-ltb 16777215 (length s) h)

  pub of_accepted : Accepted table ≡ true → length s ≤ 16777215 → forecast_of standard table s ≡ figures_of (decode table) s
  unfolding forecast_of
  of_accepted a h = rw (a, le-ltb 16777215 (length s) h)

  module _ (a : Answer) (q : a ≡ judged table) (r : Forecast) where
    number_zero : a.number ≡ 0 → (judged table).number ≡ 0
    number_zero e = sym (ap (λ (x : Answer). x.number) q) ∙ e

    pub then_refused : (a.number ≡ 0 → ⊥) → r ≡ no_figures a.number a.place → r ≡ forecast_of standard table s
    then_refused n e = e ∙ ap (λ (x : Answer). no_figures x.number x.place) q ∙ sym (of_refused (λ z. n (ap (λ (x : Answer). x.number) q ∙ z)))

    pub then_long : a.number ≡ 0 → 16777215 < length s → r ≡ no_figures 7 0 → r ≡ forecast_of standard table s
    then_long e h f = f ∙ sym (of_long (number_zero e) h)

    pub then_figures : a.number ≡ 0 → length s ≤ 16777215 → r ≡ figures_of (decode table) s → r ≡ forecast_of standard table s
    then_figures e h f = f ∙ sym (of_accepted (eq-eqb (judged table).number 0 (number_zero e)) h)
