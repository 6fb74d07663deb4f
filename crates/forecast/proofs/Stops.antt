-- Behind k events: where the next step is refused or finds the scene's end, k is how many events come before the first limit, and the run ends so.
--     stopped_here     of the plan
--     turn_stops, turn_goes     of what a step without an output hands back
use Prim.Native.Nat.{ℕ, ◌≤◌, ◌<◌}
use mathlib.Core.Path.{◌≡◌, refl, sym, ap, subst, ◌∙◌}
use mathlib.Core.List.{List}
use mathlib.Core.Bool.{Bool, true, false}
use mathlib.Core.Logic.{⊎_elim}
use mathlib.Core.Option.{Option, none, some}
use native.Mathlib.Omega.{arith}
use borrow.Author.Tests.{eqb-true, eqb-false}
use lib.ListN.{length, get_or}
use lib.Dec.{eqb}
use Rattle.laws.specs.Reading.{le_or_lt}
use Rattle.table.specs.Table.{Table, decode}
use Rattle.table.specs.Judge.{Accepted}
use Rattle.reader.specs.Events as scene
use Rattle.reader.specs.Events.{ReaderState, next, events, last_of}
use Rattle.reader.specs.Spans.{span}
use Rattle.reader.proofs.Held.{numbered}
use Rattle.model.specs.Theory.{Record}
use Rattle.model.specs.Records.{Body}
use Rattle.sessions.specs.Sessions.{reader_of}
use Rattle.sessions.specs.Stepping.{event_place, Plan, refused, finished, event, plan_by, plan_of, Step}
use Rattle.sessions.specs.Turns.{weighed}
use Rattle.sessions.specs.Session.{Session}
use Rattle.demands.specs.Limits.{passed, first_past, events_within, read_end, run_end}
use Rattle.demands.proofs.Goes.{goes_on}
use Rattle.demands.proofs.Reached.{Reached}
use Rattle.demands.proofs.Limits.{next_event, taken_passed, limited_step, FirstPast, first_past_lem, before_by, end_by}
use Rattle.demands.proofs.Runs.{ends_here}

-- k events come before the first limit, and the run ends by this number at this place
pub record Stopped (t : Table) (s : List ℕ) (k number place : ℕ) : Type 0 where
  pub within : k ≡ events_within t s
  pub ends : run_end t s ≡ record { number = number; place = place }

module _ (table : List ℕ) (ok : Accepted table ≡ true) (s : List ℕ) (short : length s ≤ 16777215) (z : Session) (k : ℕ) (rs : List (Record Body ℕ)) (h : Reached (decode table) s z k rs) where
  abbrev t : Table
  t = decode table

  -- behind all events no limit was passed
  all_by : (o : Option ℕ) → FirstPast t s o → k ≡ length (events s) → (k ≡ before_by s o) × (end_by t s o ≡ read_end (last_of s))
  all_by none f all = (all, refl)
  all_by (some j) f all = absurd (f.1 (taken_passed table ok s z k rs h j (omega (arith, f.0))))

  read_stops : (x : scene.Next) → (k ≡ length (events s)) × (last_of s ≡ x) → Stopped t s k (read_end x).number (read_end x).place
  unfolding run_end events_within
  read_stops x e =
      let b = all_by (first_past t s (length (events s)) 0) (first_past_lem t s) e.0 in
      record { within = b.0; ends = b.1 ∙ ap read_end e.1 }

  -- the next event is the first to pass one
  limit_by : (o : Option ℕ) → FirstPast t s o → k < length (events s) → (passed t s k ≡ 0 → ⊥) → (k ≡ before_by s o) × (end_by t s o ≡ record { number = passed t s k; place = event_place (get_or (events s) k (scene.text (span 0 0))) })
  limit_by none f lt n = absurd (n (f k lt))
  limit_by (some j) f lt n =
      let here : k ≡ j =
      ⊎_elim (λ le. ⊎_elim (λ ge. omega arith) (λ l. absurd (n (f.2 k l))) (le_or_lt j k)) (λ l. absurd (f.1 (taken_passed table ok s z k rs h j l))) (le_or_lt k j) in
      (here, rw here)

  limit_stops : (e : scene.Event) (z' : ReaderState) → next s (reader_of z) ≡ scene.event e z' → (passed t s k ≡ 0 → ⊥) → Stopped t s k (passed t s k) (event_place e)
  unfolding run_end events_within
  limit_stops e z' q n =
      let d : scene.Event = scene.text (span 0 0) in
      let b = limit_by (first_past t s (length (events s)) 0) (first_past_lem t s) (goes_on s k (reader_of z) e z' h.reader q).inside n in
      record { within = b.0; ends = b.1 ∙ ap (λ (x : scene.Event). record { number = passed t s k; place = event_place x }) (next_event t s z k rs h e z' q d) }

  abbrev pub StopsBy : Plan → Type 0
  StopsBy (refused n p) = (n ≡ 0 → ⊥) × Stopped (decode table) s k n p
  StopsBy (finished p) = Stopped (decode table) s k 9 p
  StopsBy (event p ps w) = Unit {0}

  plan_by_lem : (x : scene.Next) → next s (reader_of z) ≡ x → StopsBy (plan_by t s z x)
  unfolding plan_of
  plan_by_lem (scene.refusal n p) q =
      let i = numbered s (reader_of z) h.sound.held n p q in
      (λ e. absurd (omega (arith, i.some)), read_stops (scene.refusal n p) (ends_here s k (reader_of z) (scene.refusal n p) h.reader q refl refl))
  plan_by_lem (scene.finished p) q = read_stops (scene.finished p) (ends_here s k (reader_of z) (scene.finished p) h.reader q refl refl)
  plan_by_lem (scene.event e z') q = by (eqb (passed t s k) 0) refl
    where
      same : plan_of t s z ≡ plan_by t s z (scene.event e z')
      same = ap (plan_by t s z) q

      by : (b : Bool) → eqb (passed t s k) 0 ≡ b → StopsBy (plan_by t s z (scene.event e z'))
      by true c = let p = (limited_step table ok s short z k rs h e z' q).1 (eqb-true (passed t s k) 0 c) in subst StopsBy (sym p.is ∙ same) tt
      by false c = let n = eqb-false (passed t s k) 0 c in subst StopsBy (sym ((limited_step table ok s short z k rs h e z' q).0 n) ∙ same) (n, limit_stops e z' q n)

  pub stopped_here : StopsBy (plan_of (decode table) s z)
  unfolding plan_of
  stopped_here = plan_by_lem (next s (reader_of z)) refl

  -- ---- a step without an output
  pub turn_stops : (r : Step) → r ≡ weighed (plan_of (decode table) s z) z → (r.answer.number ≡ 0 → ⊥) → Stopped (decode table) s k r.answer.number r.answer.place
  turn_stops r e n = by (plan_of t s z) stopped_here e
    where
      by : (x : Plan) → StopsBy x → r ≡ weighed x z → Stopped t s k r.answer.number r.answer.place
      by (refused m p) st e = rw e st.1
      by (finished p) st e = rw e st
      by (event p ps w) st e = absurd (n (ap (λ (y : Step). y.answer.number) e))

  -- an event was planned, and this is the session behind it
  pub record Went (r : Step) : Type 0 where
    pub place : ℕ
    pub records : List (Record Body ℕ)
    pub is : plan_of (decode table) s z ≡ event place records r.session
    pub count : r.answer.records ≡ length records

  pub turn_goes : (r : Step) → r ≡ weighed (plan_of (decode table) s z) z → r.answer.number ≡ 0 → Went r
  turn_goes r e n = by (plan_of t s z) refl stopped_here e
    where
      by : (x : Plan) → plan_of t s z ≡ x → StopsBy x → r ≡ weighed x z → Went r
      by (refused m p) q st e = absurd (st.0 (sym (ap (λ (y : Step). y.answer.number) e) ∙ n))
      by (finished p) q st e = absurd (omega (arith, ap (λ (y : Step). y.answer.number) e))
      by (event p ps w) q st e = record { place = p; records = ps; is = q ∙ ap (event p ps) (sym (ap (λ (y : Step). y.session) e)); count = ap (λ (y : Step). y.answer.records) e }
