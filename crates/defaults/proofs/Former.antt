-- N3: "An accepted table keeps its former results once given, for each mode and kind that lacks an any rule, one with unwrap, next mode its own, if 128
-- rules suffice." What the calls and the model give for it under the standard's defaults is what they gave for the table under the former ones.
--     before_step, before_advance, before_run, before_forecast     of a table that says under the standard's defaults what another said under the former
--     former_step, former_advance, former_run, former_forecast, former_list, former_cut
--     meets_step, meets_advance, meets_run, meets_forecast, meets_list, meets_cut     where every strand meets a rule, both defaults give the same
use Prim.Native.Nat.{ℕ, zero, suc, ◌*◌, ◌+◌}
use mathlib.Core.Path.{◌≡◌, refl, ap, ◌∙◌, sym}
use mathlib.Core.List.{List}
use mathlib.Core.Bool.{true, cond, not}
use lib.ListN.{length}
use lib.Dec.{eqb, ltb}
use Rattle.table.specs.Table.{Table, Defaults, standard, former, decode_by}
use Rattle.table.specs.Judge.{said, judged, Accepted}
use Rattle.table.specs.declared.Answer.{Answer}
use Rattle.table.proofs.Accepted.{accepted_answer}
use Rattle.sessions.specs.Sessions.{fresh_of}
use Rattle.sessions.specs.Coherence.{coherent}
use Rattle.sessions.specs.Stepping.{Step, refused_step, planned, plan_of, longest, rest_of, joined, step_of, advance_of, run_by, run_of}
use Rattle.sessions.specs.Session.{Session}
use Rattle.forecast.specs.Forecasts.{no_figures, figures_of, forecast_of}
use Rattle.forecast.specs.declared.figures.Forecast.{Forecast}
use Rattle.defaults.specs.Former.{Suffices, with_any, Meets, model_list, cut_list}
use Rattle.defaults.proofs.Judged.{accepted_more}
use Rattle.defaults.proofs.SameTable.{same_table, meets_same}

-- a step and a forecast, by what judge says of a table and by the table
abbrev step_with : List ℕ → Session → List ℕ → Answer → Table → Step
step_with s z out j t =
    cond (not (eqb j.number 0)) (refused_step j.number j.place z out)
    (cond (ltb longest (length s)) (refused_step 7 0 z out)
    (cond (not (coherent t s z)) (refused_step 20 0 z out)
    (planned (plan_of t s z) z out)))

step_with_lem : (d : Defaults) (t s : List ℕ) (z : Session) (out : List ℕ) → step_of d t s z out ≡ step_with s z out (judged t) (decode_by d t)
unfolding step_of
step_with_lem d t s z out = refl

abbrev forecast_with : List ℕ → Answer → Table → Forecast
forecast_with s j t = cond (not (eqb j.number 0)) (no_figures j.number j.place) (cond (ltb longest (length s)) (no_figures 7 0) (figures_of t s))

forecast_with_lem : (d : Defaults) (t s : List ℕ) → forecast_of d t s ≡ forecast_with s (judged t) (decode_by d t)
unfolding forecast_of
forecast_with_lem d t s = refl

-- an advance is by steps
advance_same : (d d' : Defaults) (t t' s : List ℕ) → ((z : Session) (out : List ℕ) → step_of d t s z out ≡ step_of d' t' s z out) → (n : ℕ) (z : Session) (out : List ℕ)
    → advance_of d n t s z out ≡ advance_of d' n t' s z out
unfolding advance_of
advance_same d d' t t' s h zero z out = refl
advance_same d d' t t' s h (suc n) z out =
    let r = step_of d t s z out in
    ap (λ (later : Step). cond (eqb r.answer.number 0) (joined r later) r) (advance_same d d' t t' s h n r.session (rest_of r))
    ∙ ap (λ (q : Step). cond (eqb q.answer.number 0) (joined q (advance_of d' n t' s q.session (rest_of q))) q) (h z out)

run_same : (d d' : Defaults) (t t' s : List ℕ) → ((z : Session) (out : List ℕ) → step_of d t s z out ≡ step_of d' t' s z out) → (out : List ℕ) → run_of d t s out ≡ run_of d' t' s out
unfolding run_of
run_same d d' t t' s h out = ap run_by (advance_same d d' t t' s h (2 * length s + 2) fresh_of out)

-- ---- a table that says now what another said before
module _ (t u : List ℕ) (a : Accepted t ≡ true) (b : Accepted u ≡ true) (same : decode_by standard u ≡ decode_by former t) where
  -- both are accepted; nothing else asks for their lengths
  as_before : {X : Type 0} (f : Answer → Table → X) → ((n m : ℕ) (v : Table) → f (said 0 n) v ≡ f (said 0 m) v) → f (judged u) (decode_by standard u) ≡ f (judged t) (decode_by former t)
  as_before f e =
      ap (λ (j : Answer). f j (decode_by standard u)) (accepted_answer u b)
      ∙ e (length u) (length t) (decode_by standard u)
      ∙ ap (f (said 0 (length t))) same
      ∙ ap (λ (j : Answer). f j (decode_by former t)) (sym (accepted_answer t a))

  pub before_step : (s : List ℕ) (z : Session) (out : List ℕ) → step_of standard u s z out ≡ step_of former t s z out
  before_step s z out = step_with_lem standard u s z out ∙ as_before (step_with s z out) (λ n m v. refl) ∙ sym (step_with_lem former t s z out)

  pub before_advance : (n : ℕ) (s : List ℕ) (z : Session) (out : List ℕ) → advance_of standard n u s z out ≡ advance_of former n t s z out
  before_advance n s z out = advance_same standard former u t s (before_step s) n z out

  pub before_run : (s out : List ℕ) → run_of standard u s out ≡ run_of former t s out
  before_run s out = run_same standard former u t s (before_step s) out

  pub before_forecast : (s : List ℕ) → forecast_of standard u s ≡ forecast_of former t s
  before_forecast s = forecast_with_lem standard u s ∙ as_before (forecast_with s) (λ n m v. refl) ∙ sym (forecast_with_lem former t s)

-- ---- the table with an any rule for each mode and kind
module _ (t : List ℕ) (a : Accepted t ≡ true) (enough : Suffices t) where
  pub former_step : (s : List ℕ) (z : Session) (out : List ℕ) → step_of standard (with_any t) s z out ≡ step_of former t s z out
  former_step = before_step t (with_any t) a (accepted_more t a enough) (same_table t a)

  pub former_advance : (n : ℕ) (s : List ℕ) (z : Session) (out : List ℕ) → advance_of standard n (with_any t) s z out ≡ advance_of former n t s z out
  former_advance = before_advance t (with_any t) a (accepted_more t a enough) (same_table t a)

  pub former_run : (s out : List ℕ) → run_of standard (with_any t) s out ≡ run_of former t s out
  former_run = before_run t (with_any t) a (accepted_more t a enough) (same_table t a)

  pub former_forecast : (s : List ℕ) → forecast_of standard (with_any t) s ≡ forecast_of former t s
  former_forecast = before_forecast t (with_any t) a (accepted_more t a enough) (same_table t a)

  pub former_list : (s : List ℕ) → model_list (decode_by standard (with_any t)) s ≡ model_list (decode_by former t) s
  former_list s = ap (λ (u : Table). model_list u s) (same_table t a)

  pub former_cut : (s : List ℕ) (k : ℕ) → cut_list (decode_by standard (with_any t)) s k ≡ cut_list (decode_by former t) s k
  former_cut s k = ap (λ (u : Table). cut_list u s k) (same_table t a)

-- ---- where every strand meets a rule
module _ (t : List ℕ) (meets : Meets t) where
  pub meets_step : (s : List ℕ) (z : Session) (out : List ℕ) → step_of standard t s z out ≡ step_of former t s z out
  meets_step s z out = step_with_lem standard t s z out ∙ ap (step_with s z out (judged t)) (meets_same t meets) ∙ sym (step_with_lem former t s z out)

  pub meets_advance : (n : ℕ) (s : List ℕ) (z : Session) (out : List ℕ) → advance_of standard n t s z out ≡ advance_of former n t s z out
  meets_advance n s z out = advance_same standard former t t s (meets_step s) n z out

  pub meets_run : (s out : List ℕ) → run_of standard t s out ≡ run_of former t s out
  meets_run s out = run_same standard former t t s (meets_step s) out

  pub meets_forecast : (s : List ℕ) → forecast_of standard t s ≡ forecast_of former t s
  meets_forecast s = forecast_with_lem standard t s ∙ ap (forecast_with s (judged t)) (meets_same t meets) ∙ sym (forecast_with_lem former t s)

  pub meets_list : (s : List ℕ) → model_list (decode_by standard t) s ≡ model_list (decode_by former t) s
  meets_list s = ap (λ (u : Table). model_list u s) (meets_same t meets)

  pub meets_cut : (s : List ℕ) (k : ℕ) → cut_list (decode_by standard t) s k ≡ cut_list (decode_by former t) s k
  meets_cut s k = ap (λ (u : Table). cut_list u s k) (meets_same t meets)
