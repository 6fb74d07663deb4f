-- N3: "A run's events, number and place, but that it may stop earlier by 24 or 25".
--     end_same     a run that has room ends as it did, or earlier by 24
use Prim.Native.Nat.{ℕ, ◌<◌}
use mathlib.Core.Path.{◌≡◌, refl, sym, ap, ◌∙◌}
use mathlib.Core.List.{List}
use mathlib.Core.Bool.{true}
use mathlib.Core.Logic.{◌⊎◌, inl, inr, ⊎_elim}
use mathlib.Core.Option.{Option, none, some}
use native.Mathlib.Omega.{arith}
use lib.ListN.{length, get_or}
use Rattle.laws.specs.Reading.{le_or_lt}
use Rattle.table.specs.Judge.{Accepted}
use Rattle.reader.specs.Events as scene
use Rattle.reader.specs.Spans.{span}
use Rattle.sessions.specs.Stepping.{event_place}
use Rattle.demands.specs.Limits.{passed, first_past, events_within, run_end}
use Rattle.demands.proofs.Limits.{FirstPast, first_past_lem, before_by, end_by}
use Rattle.defaults.specs.Ends.{EndsSame, EndsEarlier}
use Rattle.defaults.proofs.Meeting.{now, before}
use Rattle.defaults.proofs.SameLimits.{limit_same}

module _ (t : List ℕ) (ok : Accepted t ≡ true) (s : List ℕ) where
  -- by the first event that passes a limit
  abbrev Ends : Option ℕ → Option ℕ → Type 0
  Ends o p = ((before_by s o ≡ before_by s p) × (end_by (now t) s o ≡ end_by (before t) s p)) ⊎ ((before_by s o < before_by s p) × ((end_by (now t) s o).number ≡ 24))

  -- an event that passed a limit passes one; one that passes a limit and passed none passes 24
  still_past : (k : ℕ) → k < length (scene.events s) → (passed (before t) s k ≡ 0 → ⊥) → passed (now t) s k ≡ passed (before t) s k
  still_past k lt n = ⊎_elim (λ e. e) (λ e. absurd (n e.1)) (limit_same t s k lt ok)

  newly_past : (k : ℕ) → k < length (scene.events s) → (passed (now t) s k ≡ 0 → ⊥) → passed (before t) s k ≡ 0 → passed (now t) s k ≡ 24
  newly_past k lt n z = ⊎_elim (λ e. absurd (n (e ∙ z))) (λ e. e.0) (limit_same t s k lt ok)

  by : (o p : Option ℕ) → FirstPast (now t) s o → FirstPast (before t) s p → Ends o p
  by none none f g = inl (refl, refl)
  by none (some j) f g = absurd (g.1 (sym (still_past j g.0 g.1) ∙ f j g.0))
  by (some k) none f g = inr (f.0, newly_past k f.0 f.1 (g k f.0))
  by (some k) (some j) f g =
      ⊎_elim
      (λ le. ⊎_elim (λ ge. at (omega arith)) (λ lt. absurd (g.1 (sym (still_past j g.0 g.1) ∙ f.2 j lt))) (le_or_lt k j))
      (λ lt. inr (lt, newly_past k f.0 f.1 (g.2 k lt)))
      (le_or_lt j k)
    where
      at : k ≡ j → Ends (some k) (some j)
      at e =
          inl (
            e,
            ap (λ (i : ℕ). record { number = passed (now t) s i; place = event_place (get_or (scene.events s) i (scene.text (span 0 0))) }) e
                ∙ ap (λ (n : ℕ). record { number = n; place = event_place (get_or (scene.events s) j (scene.text (span 0 0))) }) (still_past j g.0 g.1),
          )

  pub end_same : EndsSame t s ⊎ EndsEarlier t s
  unfolding events_within run_end
  end_same =
      ⊎_elim (λ e. inl (record { events = e.0; end = e.1 })) (λ e. inr (record { fewer = e.0; number = e.1 }))
      (by (first_past (now t) s (length (scene.events s)) 0) (first_past (before t) s (length (scene.events s)) 0) (first_past_lem (now t) s) (first_past_lem (before t) s))
