-- N3: "A run's events, number and place, but that it may stop earlier by 24 or 25", of runs that have room, where 128 rules suffice.
--     former_ends     a run under the former defaults ends by the reader and the model
--     ends_same       under both: the same number, place and events, or 24 behind fewer events
use Prim.Native.Nat.{ℕ, ◌*◌, ◌≤◌, ◌<◌}
use mathlib.Core.Path.{◌≡◌, sym, ap, subst, ◌∙◌}
use mathlib.Core.List.{List}
use mathlib.Core.Bool.{true}
use mathlib.Core.Logic.{◌⊎◌, inl, inr, ⊎_elim}
use native.Mathlib.Omega.{arith}
use lib.ListN.{length}
use Rattle.table.specs.Table.{Table, standard, former, decode_by}
use Rattle.table.specs.Judge.{Accepted}
use Rattle.table.specs.declared.Answer.{Answer}
use Rattle.sessions.specs.Stepping.{Run, run_of}
use Rattle.demands.specs.Scenes.{model_count}
use Rattle.demands.specs.Limits.{events_within, End, run_end}
use Rattle.demands.proofs.Ends.{run_ends}
use Rattle.defaults.specs.Former.{Suffices, with_any}
use Rattle.defaults.proofs.Judged.{accepted_more}
use Rattle.defaults.proofs.SameTable.{same_table}
use Rattle.defaults.proofs.Former.{former_run}
use Rattle.defaults.proofs.SameEnds.{end_same}

abbrev EndsBy : Table → List ℕ → Answer → Type 0
EndsBy u s a = (a.number ≡ (run_end u s).number) × (a.place ≡ (run_end u s).place) × (a.events ≡ events_within u s)

-- room for the records of the events before the first limit
abbrev Room : Table → List ℕ → List ℕ → Type 0
Room u s out = 16 * model_count u s (events_within u s) ≤ length out

module _ (t : List ℕ) (ok : Accepted t ≡ true) (enough : Suffices t) (s : List ℕ) (short : length s ≤ 16777215) where
  pub former_ends : (out : List ℕ) → 16 * model_count (decode_by former t) s (events_within (decode_by former t) s) ≤ length out →
      ((run_of former t s out).answer.number ≡ (run_end (decode_by former t) s).number) × ((run_of former t s out).answer.place ≡ (run_end (decode_by former t) s).place) × ((run_of former t s out).answer.events ≡ events_within (decode_by former t) s)
  former_ends out room =
      let e = same_table t ok in
      let r = run_ends (with_any t) s out (accepted_more t ok enough) short (subst (λ (u : Table). Room u s out) (sym e) room) in
      subst (λ (u : Table). EndsBy u s (run_of former t s out).answer) e (subst (λ (x : Run). EndsBy (decode_by standard (with_any t)) s x.answer) (former_run t ok enough s out) r)

  pub ends_same : (out before : List ℕ) → 16 * model_count (decode_by standard t) s (events_within (decode_by standard t) s) ≤ length out → 16 * model_count (decode_by former t) s (events_within (decode_by former t) s) ≤ length before →
      let a = (run_of standard t s out).answer in
      let b = (run_of former t s before).answer in
      ((a.number ≡ b.number) × (a.place ≡ b.place) × (a.events ≡ b.events)) ⊎ ((a.number ≡ 24) × (a.events < b.events))
  ends_same out before room room' =
      let x = run_ends t s out ok short room in
      let y = former_ends before room' in
      ⊎_elim
      (λ e. inl (x.0 ∙ ap (λ (k : End). k.number) e.end ∙ sym y.0, x.1 ∙ ap (λ (k : End). k.place) e.end ∙ sym y.1, x.2 ∙ e.events ∙ sym y.2))
      (λ e. inr (x.0 ∙ e.number, omega (arith, x.2, y.2, e.fewer)))
      (end_same t ok s)
