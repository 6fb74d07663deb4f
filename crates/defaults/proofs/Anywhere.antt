-- N3: "their place among the rules is of no account": a table with the rules that it lacks gives what it gave before, wherever these stand.
--     kept_same                                                          tables with the same rules of each mode, kind and class say the same
--     anywhere_step, anywhere_advance, anywhere_run, anywhere_forecast   what such a table gives is what t gave
--     anywhere_list, anywhere_cut, anywhere_uri
use Prim.Native.Nat.{ℕ}
use mathlib.Core.Path.{◌≡◌, ap, ◌∙◌, fun_ext}
use mathlib.Core.List.{List, [], ◌∷◌}
use mathlib.Core.Bool.{true, cond}
use lib.Dec.{ltb}
use Rattle.table.specs.Table.{Table, Default, Defaults, standard, former, header_of, any_class, or_else, rules_of, all_rules, fallback, taken_of, decode_by}
use Rattle.table.specs.Judge.{Accepted}
use Rattle.uris.specs.Uris.{uri_part}
use Rattle.sessions.specs.Stepping.{step_of, advance_of, run_of}
use Rattle.sessions.specs.Session.{Session}
use Rattle.forecast.specs.Forecasts.{forecast_of}
use Rattle.defaults.specs.Former.{with_any, SameRules, model_list, cut_list}
use Rattle.defaults.proofs.Added.{uris_more}
use Rattle.defaults.proofs.SameTable.{same_table}
use Rattle.defaults.proofs.SameUris.{same_part}
use Rattle.defaults.proofs.Former.{before_step, before_advance, before_run, before_forecast}

module _ (u t : List ℕ) (h : SameRules u t) where
  taken_same : (d : Default) (kind : ℕ) → taken_of (header_of u) (all_rules u (header_of u)) d kind ≡ taken_of (header_of t) (all_rules t (header_of t)) d kind
  unfolding taken_of rules_of
  taken_same d kind = fun_ext (λ mode. fun_ext (λ class. λ i. cond (ltb mode (h.modes i)) (or_else (or_else (h.rules mode kind class i) (h.rules mode kind any_class i)) (fallback d kind mode ∷ [])) []))

  pub kept_same : (d : Defaults) → decode_by d u ≡ decode_by d t
  kept_same d = λ i. record { modes = h.modes i; uris = h.uris i; element_rules = taken_same d.element 0 i; attribute_rules = taken_same d.attribute 1 i }

module _ (t u : List ℕ) (a : Accepted t ≡ true) (b : Accepted u ≡ true) (h : SameRules u (with_any t)) where
  says : decode_by standard u ≡ decode_by former t
  says = kept_same u (with_any t) h standard ∙ same_table t a

  pub anywhere_step : (s : List ℕ) (z : Session) (out : List ℕ) → step_of standard u s z out ≡ step_of former t s z out
  anywhere_step = before_step t u a b says

  pub anywhere_advance : (n : ℕ) (s : List ℕ) (z : Session) (out : List ℕ) → advance_of standard n u s z out ≡ advance_of former n t s z out
  anywhere_advance = before_advance t u a b says

  pub anywhere_run : (s out : List ℕ) → run_of standard u s out ≡ run_of former t s out
  anywhere_run = before_run t u a b says

  pub anywhere_forecast : (s : List ℕ) → forecast_of standard u s ≡ forecast_of former t s
  anywhere_forecast = before_forecast t u a b says

  pub anywhere_list : (s : List ℕ) → model_list (decode_by standard u) s ≡ model_list (decode_by former t) s
  anywhere_list s = ap (λ (v : Table). model_list v s) says

  pub anywhere_cut : (s : List ℕ) (k : ℕ) → cut_list (decode_by standard u) s k ≡ cut_list (decode_by former t) s k
  anywhere_cut s k = ap (λ (v : Table). cut_list v s k) says

  pub anywhere_uri : (s : List ℕ) (class at len : ℕ) → uri_part u s class at len ≡ uri_part t s class at len
  anywhere_uri = same_part u t b a (h.uris ∙ uris_more t a)
