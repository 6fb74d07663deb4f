-- Numbers 21 to 24 of a step, by the model: the limit that the next event passes.
--     taken_passed     the events that steps took pass none
--     limited_step     behind k events: refused by the limit that the k-th passes, at its place; an event where it passes none
--     limited_answer   the same as a step's answer
--     only_starts      texts and ends pass none
--     first_start      the first event of a scene to pass a limit is a start
--     first_past_lem       that event is what `first_past` gives
--     within_all, within_first     the events before it are events of the scene, and pass none
use Prim.Native.Nat.{ℕ, zero, suc, ◌+◌, ◌*◌, ◌≤◌, ◌<◌}
use mathlib.Core.Path.{◌≡◌, refl, sym, ap, subst, ◌∙◌}
use mathlib.Core.List.{List, [], ◌∷◌, ◌++◌}
use mathlib.Core.Bool.{Bool, true, false, cond}
use mathlib.Core.Logic.{◌⊎◌, inl, inr, ⊎_elim}
use mathlib.Core.Option.{Option, none, some}
use native.Mathlib.Numerals.{add-one}
use native.Mathlib.Omega.{arith}
use borrow.Author.Tests.{eqb-true, eqb-false, ltb-false}
use lib.ListN.{length, get_or, length-map, length-append}
use lib.Dec.{leb, ltb, eqb, leb-suc-suc}
use Rattle.laws.specs.Reading.{le_or_lt}
use Rattle.laws.proofs.Holds.{holds_cond}
use Rattle.table.specs.Table.{Table, decode, standard}
use Rattle.table.specs.Judge.{judged, Accepted}
use Rattle.reader.specs.Events as scene
use Rattle.reader.specs.Events.{ReaderState, fresh_reader, bindings_of, next, events, last_of}
use Rattle.reader.specs.Spans.{span}
use Rattle.reader.specs.declared.Span.{Span}
use Rattle.reader.specs.Scope.{opens_of}
use Rattle.reader.proofs.EventsFirst.{event_at}
use Rattle.model.specs.Theory.{Record}
use Rattle.model.specs.Tree.{start, text, end}
use Rattle.model.specs.Records.{Body}
use Rattle.model.specs.Elements.{element_of}
use Rattle.model.specs.Stream.{State, Entry, entries_at, written, after, reached}
use Rattle.model.specs.Dispatch.{dispatch, told}
use Rattle.model.proofs.Steps as stream
use Rattle.model.proofs.Assigned.{modes_at}
use Rattle.model.proofs.Tables.{one}
use Rattle.sessions.specs.Sessions.{reader_of, state_of, fresh_of, with_place, with_end}
use Rattle.sessions.specs.Stepping.{event_place, Plan, refused, event, start_plan, own_declarations, plan_by, plan_of, planned, Step, refused_step, step_of}
use Rattle.sessions.specs.Session.{Session}
use Rattle.sessions.proofs.SoundCoherent.{sound_coherent}
use Rattle.demands.specs.Scenes.{reader_after}
use Rattle.demands.specs.Limits.{depth_at, bound_at, strands_at, units_at, passed, WithinFirst, first_past, events_within, End, read_end}
use Rattle.demands.proofs.Goes.{goes_on, event_goes}
use Rattle.demands.specs.Answers as step
use Rattle.demands.specs.Answers.{Ready}
use Rattle.demands.proofs.Refusals.{answered_so, step_planned}
use Rattle.demands.proofs.Prefixes.{told_first, told_first_on}
use Rattle.demands.proofs.Measures.{number_by, stream_after, reader_after_lem, levels_length, bound_is, depth_is, strands_are, units_are, within_passed}
use Rattle.demands.proofs.Reached.{Reached, reached_fresh, few_events, reached_step}

-- an event is planned
pub record Planned (t : Table) (s : List ℕ) (z : Session) (p : ℕ) : Type 0 where
  pub records : List (Record Body ℕ)
  pub session : Session
  pub is : plan_of t s z ≡ event p records session

-- the first of the tests that holds, as a number and as a plan
abbrev plan_behind : Bool → Bool → Bool → Bool → Plan → ℕ → Plan
plan_behind a b c d x p = cond a (refused 21 p) (cond b (refused 22 p) (cond c (refused 23 p) (cond d (refused 24 p) x)))

by_limits : (a b c d : Bool) (x : Plan) (p : ℕ) → ((number_by a b c d ≡ 0 → ⊥) → plan_behind a b c d x p ≡ refused (number_by a b c d) p) × (number_by a b c d ≡ 0 → plan_behind a b c d x p ≡ x)
by_limits true b c d x p = (λ h. refl, λ q. absurd (omega arith))
by_limits false true c d x p = (λ h. refl, λ q. absurd (omega arith))
by_limits false false true d x p = (λ h. refl, λ q. absurd (omega arith))
by_limits false false false true x p = (λ h. refl, λ q. absurd (omega arith))
by_limits false false false false x p = (λ h. absurd (h refl), λ q. refl)

-- which numbers there are
pub passed_number : (t : Table) (s : List ℕ) (k : ℕ) → (passed t s k ≡ 0 → ⊥) → (21 ≤ passed t s k) × (passed t s k ≤ 24)
unfolding passed
passed_number t s k = by (ltb 64 (depth_at t s k)) (ltb 64 (bound_at s k)) (ltb 16 (strands_at t s k)) (ltb 65536 (units_at t s k))
  where
    by : (a b c d : Bool) → (number_by a b c d ≡ 0 → ⊥) → (21 ≤ number_by a b c d) × (number_by a b c d ≤ 24)
    by true b c d h = (omega arith, omega arith)
    by false true c d h = (omega arith, omega arith)
    by false false true d h = (omega arith, omega arith)
    by false false false true h = (omega arith, omega arith)
    by false false false false h = absurd (h refl)

-- an event that passes none
pub passed_none : (t : Table) (s : List ℕ) (k : ℕ) → passed t s k ≡ 0 → (depth_at t s k ≤ 64) × (strands_at t s k ≤ 16)
unfolding passed
passed_none t s k q =
    let r = by (ltb 64 (depth_at t s k)) (ltb 64 (bound_at s k)) (ltb 16 (strands_at t s k)) (ltb 65536 (units_at t s k)) q in
    (ltb-false 64 (depth_at t s k) r.0, ltb-false 16 (strands_at t s k) r.1)
  where
    by : (a b c d : Bool) → number_by a b c d ≡ 0 → (a ≡ false) × (c ≡ false)
    by true b c d q = absurd (omega arith)
    by false true c d q = absurd (omega arith)
    by false false true d q = absurd (omega arith)
    by false false false d q = (refl, refl)

-- behind k events the next is the k-th
module _ (t : Table) (s : List ℕ) (z : Session) (k : ℕ) (rs : List (Record Body ℕ)) (h : Reached t s z k rs) where
  pub event_next : k < length (events s) → (d : scene.Event) → (z' : ReaderState) × (next s (reader_of z) ≡ scene.event (get_or (events s) k d) z')
  event_next lt d =
      let r = event_at s d k lt in
      let same : r.before ≡ reader_of z = cc (r.reached, h.reader) in
      (r.after, ap (next s) (sym same) ∙ r.told)

  pub next_event : (e : scene.Event) (z' : ReaderState) → next s (reader_of z) ≡ scene.event e z' → (d : scene.Event) → get_or (events s) k d ≡ e
  next_event e z' q d =
      let n = event_next (goes_on s k (reader_of z) e z' h.reader q).inside d in
      let same : scene.event (get_or (events s) k d) n.0 ≡ scene.event e z' = sym n.1 ∙ q in
      cc

  -- its strands, of the session's state
  pub strands_next : (e : scene.Event) (z' : ReaderState) → next s (reader_of z) ≡ scene.event e z' → strands_at t s k ≡ length (modes_at (dispatch t) (state_of t s z) (told t s e))
  strands_next e z' q =
      strands_are t s k (goes_on s k (reader_of z) e z' h.reader q).inside e
      ∙ ap (λ (x : scene.Event). length (modes_at (dispatch t) (stream_after t s k) (told t s x))) (next_event e z' q e)
      ∙ ap (λ (y : State (dispatch t)). length (modes_at (dispatch t) y (told t s e))) (sym h.ran.state)

-- the events that steps took pass no limit
pub taken_passed : (table : List ℕ) → Accepted table ≡ true → (s : List ℕ) (z : Session) (k : ℕ) (rs : List (Record Body ℕ)) → Reached (decode table) s z k rs → WithinFirst (decode table) s k
taken_passed table ok s z k rs h i lt =
    within_passed (decode table) s i (omega (arith, few_events (decode table) s z k rs h)) (one table ok) (h.within i (omega arith)) (h.within (suc i) (omega arith))

module _ (table : List ℕ) (ok : Accepted table ≡ true) (s : List ℕ) (short : length s ≤ 16777215) (z : Session) (k : ℕ) (rs : List (Record Body ℕ)) (h : Reached (decode table) s z k rs) where
  abbrev t : Table
  t = decode table

  -- what the model's measures of a start are in the session
  start_passed : (e : scene.Start) (z' : ReaderState) (o : scene.Open) → next s (reader_of z) ≡ scene.event (scene.start e) z' → z'.opened ≡ o ∷ opens_of z.scope
      → passed t s k ≡ number_by (leb 64 z.scope.depth) (ltb 64 (z.scope.bound + length o.declarations)) (ltb 16 (length (entries_at (dispatch t) (state_of t s z).levels (element_of t s e)))) (ltb 65536 (after (dispatch t) (state_of t s z) (start (element_of t s e))).units)
  unfolding passed after bindings_of
  start_passed e z' o q opens =
      let σ = element_of t s e in
      let on = goes_on s k (reader_of z) (scene.start e) z' h.reader q in
      let lt = on.inside in
      let state-on : stream_after t s (suc k) ≡ after (dispatch t) (state_of t s z) (start σ) =
      ap (stream_after t s) (sym (add-one k))
      ∙ ap (reached (dispatch t)) (told_first_on t s k (scene.start e) z' on)
      ∙ stream.reached_step (dispatch t) (told_first t s k) (start σ)
      ∙ ap (λ (y : State (dispatch t)). after (dispatch t) y (start σ)) (sym h.ran.state) in
      let reader-on : reader_after (suc k) s fresh_reader ≡ z' = ap (λ (i : ℕ). reader_after i s fresh_reader) (sym (add-one k)) ∙ reader_after_lem s z' (k + 1) fresh_reader on.state in
      let depth : depth_at t s k ≡ suc z.scope.depth = depth_is t s k lt ∙ ap (λ (y : State (dispatch t)). length y.levels) state-on ∙ ap suc (levels_length t s z z.scope.depth) in
      let bound : bound_at s k ≡ z.scope.bound + length o.declarations =
      ap (λ (y : ReaderState). length (bindings_of y.opened)) reader-on ∙ ap (λ (l : List scene.Open). length (bindings_of l)) opens
      ∙ length-append (bindings_of (opens_of z.scope)) o.declarations ∙ ap (λ (n : ℕ). n + length o.declarations) (bound_is t s z h.sound) in
      let strands : strands_at t s k ≡ length (entries_at (dispatch t) (state_of t s z).levels σ) =
      strands_next t s z k rs h (scene.start e) z' q ∙ length-map (entries_at (dispatch t) (state_of t s z).levels σ) (λ (x : Entry). x.strand.mode) in
      let units : units_at t s k ≡ (after (dispatch t) (state_of t s z) (start σ)).units = units_are t s k lt (one table ok) ∙ ap (λ (y : State (dispatch t)). y.units) state-on in
      rw (depth, bound, strands, units, leb-suc-suc 64 z.scope.depth)

  -- an event whose plan is known passes none
  planned_passed : (e : scene.Event) (z' : ReaderState) → next s (reader_of z) ≡ scene.event e z' → (p : ℕ) (ps : List (Record Body ℕ)) (w : Session) → plan_of t s z ≡ event p ps w → passed t s k ≡ 0
  planned_passed e z' q p ps w plan =
      let more = reached_step table ok s short z k rs h p ps w plan in
      within_passed t s k (goes_on s k (reader_of z) e z' h.reader q).inside (one table ok) (more.within k (omega arith)) (more.within (suc k) (omega arith))

  text_planned : (v : Span) (z' : ReaderState) → next s (reader_of z) ≡ scene.event (scene.text v) z' → plan_of t s z ≡ event v.at (written (dispatch t) (state_of t s z) (text v)) (with_place z z'.place)
  unfolding plan_of
  text_planned v z' q = ap (plan_by t s z) q

  end_planned : (v : Span) (at : ℕ) (z' : ReaderState) → next s (reader_of z) ≡ scene.event (scene.end v at) z' → plan_of t s z ≡ event at (written (dispatch t) (state_of t s z) (end v)) (with_end z z'.place z'.closed)
  unfolding plan_of
  end_planned v at z' q = ap (plan_by t s z) q

  -- texts and ends pass none
  pub only_starts : (e : scene.Event) (z' : ReaderState) → next s (reader_of z) ≡ scene.event e z' → (passed t s k ≡ 0 → ⊥) → (σ : scene.Start) × (e ≡ scene.start σ)
  only_starts (scene.start σ) z' q n = (σ, refl)
  only_starts (scene.text v) z' q n = absurd (n (planned_passed (scene.text v) z' q _ _ _ (text_planned v z' q)))
  only_starts (scene.end v at) z' q n = absurd (n (planned_passed (scene.end v at) z' q _ _ _ (end_planned v at z' q)))

  -- "21 depth 65; 22 a 65th open binding; 23 a 17th strand; 24 a unit past 65,535 (< of the tag)"
  pub limited_step : (e : scene.Event) (z' : ReaderState) → next s (reader_of z) ≡ scene.event e z' →
      ((passed t s k ≡ 0 → ⊥) → plan_of t s z ≡ refused (passed t s k) (event_place e)) × (passed t s k ≡ 0 → Planned t s z (event_place e))
  unfolding plan_of start_plan
  limited_step (scene.text v) z' q =
      let plan = text_planned v z' q in
      (λ n. absurd (n (planned_passed (scene.text v) z' q _ _ _ plan)), λ n. record { records = _; session = _; is = plan })
  limited_step (scene.end v at) z' q =
      let plan = end_planned v at z' q in
      (λ n. absurd (n (planned_passed (scene.end v at) z' q _ _ _ plan)), λ n. record { records = _; session = _; is = plan })
  limited_step (scene.start e) z' q =
      let g = event_goes s (reader_of z) (scene.start e) z' q in
      let o = g.0.0 in
      let plan : plan_of t s z ≡ start_plan t s z e o.declarations z'.place = ap (plan_by t s z) q ∙ ap (λ (os : List scene.Open). start_plan t s z e (own_declarations os) z'.place) g.0.1 in
      let number = start_passed e z' o q g.0.1 in
      let σ = element_of t s e in
      let state = state_of t s z in
      let r = by_limits (leb 64 z.scope.depth) (ltb 64 (z.scope.bound + length o.declarations)) (ltb 16 (length (entries_at (dispatch t) state.levels σ))) (ltb 65536 (after (dispatch t) state (start σ)).units) _ e.at in
      (λ n. plan ∙ r.0 (λ x. n (number ∙ x)) ∙ ap (λ (m : ℕ). refused m e.at) (sym number), λ n. record { records = _; session = _; is = plan ∙ r.1 (sym number ∙ n) })

  pub reached_ready : Ready table s z
  reached_ready = record { accepted = eqb-true (judged table).number 0 ok; short = short; fits = sound_coherent t s z h.sound }

  pub limited_answer : k < length (events s) → (d : scene.Event) (out : List ℕ) →
      ((passed t s k ≡ 0 → ⊥) → step_of standard table s z out ≡ refused_step (passed t s k) (event_place (get_or (events s) k d)) z out)
      × (passed t s k ≡ 0 → ((step_of standard table s z out).answer.number ≡ 0) ⊎ ((step_of standard table s z out).answer.number ≡ 25))
  limited_answer lt d out =
      let x = event_next t s z k rs h lt d in
      let l = limited_step (get_or (events s) k d) x.0 x.1 in (
        λ n. step_planned table s z out reached_ready ∙ ap (λ (y : Plan). planned y z out) (l.0 n),
        λ n. let p = l.1 n in ⊎_elim
            (λ le. inl (ap (λ (r : Step). r.answer.number) (answered_so table s z out (step.wrote reached_ready _ p.records p.session p.is le))))
            (λ gt. inr (ap (λ (r : Step). r.answer.number) (answered_so table s z out (step.no_room reached_ready _ p.records p.session p.is gt))))
            (le_or_lt (16 * length p.records) (length out)),
      )

-- ---- a scene's events
module _ (table : List ℕ) (ok : Accepted table ≡ true) (s : List ℕ) (short : length s ≤ 16777215) where
  record Reach (k : ℕ) : Type 0 where
    session : Session
    records : List (Record Body ℕ)
    reached : Reached (decode table) s session k records

  reach_on : (k : ℕ) → k < length (events s) → passed (decode table) s k ≡ 0 → Reach k → Reach (suc k)
  reach_on k lt w r =
      let n = event_next (decode table) s r.session k r.records r.reached lt (scene.text (span 0 0)) in
      let p = (limited_step table ok s short r.session k r.records r.reached _ n.0 n.1).1 w in
      let more = reached_step table ok s short r.session k r.records r.reached _ p.records p.session p.is in
      subst Reach (add-one k) (record { session = p.session; records = r.records ++ p.records; reached = more })

  -- steps reach every event before which none passes a limit
  reach : (k : ℕ) → k ≤ length (events s) → WithinFirst (decode table) s k → Reach k
  reach zero le w = record { session = fresh_of; records = []; reached = reached_fresh (decode table) s }
  reach (suc k) le w = reach_on k (omega arith) (w k (omega arith)) (reach k (omega arith) (λ i l. w i (omega arith)))

  -- the first event to pass a limit is a start
  pub first_start : (k : ℕ) → k < length (events s) → WithinFirst (decode table) s k → (passed (decode table) s k ≡ 0 → ⊥) → (d : scene.Event) → (σ : scene.Start) × (get_or (events s) k d ≡ scene.start σ)
  first_start k lt w n d =
      let t = decode table in
      let r = reach k (omega arith) w in
      let x = event_next t s r.session k r.records r.reached lt d in
      only_starts table ok s short r.session k r.records r.reached (get_or (events s) k d) x.0 x.1 n

-- which event `first_past` gives, of n events from the k-th on
module _ (t : Table) (s : List ℕ) where
  abbrev First : ℕ → ℕ → Option ℕ → Type 0
  First n k none = (i : ℕ) → k ≤ i → i < k + n → passed t s i ≡ 0
  First n k (some j) = (k ≤ j) × (j < k + n) × (passed t s j ≡ 0 → ⊥) × ((i : ℕ) → k ≤ i → i < j → passed t s i ≡ 0)

  first_of : (n k : ℕ) → First n k (first_past t s n k)
  unfolding first_past
  first_of zero k = λ i a b. absurd (omega arith)
  first_of (suc n) k =
      holds_cond (First (suc n) k) (eqb (passed t s k) 0)
      (λ q. more (first_past t s n (suc k)) (eqb-true (passed t s k) 0 q) (first_of n (suc k)))
      (λ q. (omega arith, omega arith, eqb-false (passed t s k) 0 q, λ i a b. absurd (omega arith)))
    where
      here : passed t s k ≡ 0 → (i : ℕ) → k ≤ i → (suc k ≤ i → passed t s i ≡ 0) → passed t s i ≡ 0
      here q i le later = ⊎_elim later (λ lt. subst (λ (j : ℕ). passed t s j ≡ 0) (omega arith) q) (le_or_lt (suc k) i)

      more : (o : Option ℕ) → passed t s k ≡ 0 → First n (suc k) o → First (suc n) k o
      more none q f = λ i a b. here q i a (λ l. f i l (omega arith))
      more (some j) q f = (omega (arith, f.0), omega (arith, f.1), f.2, λ i a b. here q i a (λ l. f.3 i l b))

  -- of all events
  abbrev pub FirstPast : Option ℕ → Type 0
  FirstPast none = WithinFirst t s (length (events s))
  FirstPast (some k) = (k < length (events s)) × (passed t s k ≡ 0 → ⊥) × WithinFirst t s k

  pub first_past_lem : FirstPast (first_past t s (length (events s)) 0)
  first_past_lem = by (first_past t s (length (events s)) 0) (first_of (length (events s)) 0)
    where
      by : (o : Option ℕ) → First (length (events s)) 0 o → FirstPast o
      by none f = λ i l. f i (omega arith) (omega arith)
      by (some k) f = (omega (arith, f.1), f.2, λ i l. f.3 i (omega arith) l)

-- what it says of the events before it, and of the run's end
abbrev pub before_by : List ℕ → Option ℕ → ℕ
before_by s o = elim o [ none ↦ length (events s) | some k ↦ k ]

abbrev pub end_by : Table → List ℕ → Option ℕ → End
end_by t s o = elim o [ none ↦ read_end (last_of s) | some k ↦ record { number = passed t s k; place = event_place (get_or (events s) k (scene.text (span 0 0))) } ]

pub within_all : (t : Table) (s : List ℕ) → events_within t s ≤ length (events s)
unfolding events_within
within_all t s = by (first_past t s (length (events s)) 0) (first_past_lem t s)
  where
    by : (o : Option ℕ) → FirstPast t s o → before_by s o ≤ length (events s)
    by none f = omega arith
    by (some k) f = omega (arith, f.0)

pub within_first : (t : Table) (s : List ℕ) → WithinFirst t s (events_within t s)
unfolding events_within
within_first t s = by (first_past t s (length (events s)) 0) (first_past_lem t s)
  where
    by : (o : Option ℕ) → FirstPast t s o → WithinFirst t s (before_by s o)
    by none f = f
    by (some k) f = f.2
