-- What a session that steps handed back holds stands before its place: it is sound in the bytes up to there.
--     next_up_to                      an event but a text is read from the bytes up to its end
--     Before, up_to                   sound in the bytes up to the session's place, and so up to any place behind it
--     before_more, before_step        in a longer scene; one event more
use Rattle.std.specs.Prelude.{Ok, Err}
use Prim.Native.Nat.{ℕ, ◌+◌, ◌≤◌, ◌<◌}
use mathlib.Core.Path.{◌≡◌, sym, ap, subst, ◌∙◌}
use mathlib.Core.List.{List, [], ◌∷◌, ◌++◌}
use mathlib.Core.Bool.{Bool, true, false, not}
use mathlib.Core.Logic.{⊎_elim}
use native.Mathlib.Omega.{arith}
use lib.ListN.{length, take, drop, take-append-drop}
use lib.Dec.{leb, ltb}
use lib.Seq.{length-take-le, take-append-le, take-take}
use Rattle.laws.specs.Lists.{same_list}
use Rattle.laws.specs.Members.{All}
use Rattle.laws.proofs.Holds.{holds_cond}
use Rattle.table.specs.Table.{Table, decode}
use Rattle.table.specs.Judge.{Accepted}
use Rattle.lexer.specs.Values.{text_end}
use Rattle.lexer.specs.Tags.{TagRead, tag_at, end_tag_at}
use Rattle.lexer.specs.Begins.{begin_at}
use Rattle.lexer.specs.Reads.{Read, Tagged, Ended, BeginRead}
use Rattle.lexer.specs.declared.Tag.{Tag}
use Rattle.lexer.specs.declared.Begin.TheVariants as begin
use Rattle.reader.specs.Spans.{bytes_of, whole_span}
use Rattle.reader.specs.Namespaces.{Meaning, refused, meant, meaning_of}
use Rattle.reader.specs.Events as scene
use Rattle.reader.specs.Events.{Open, ReaderState, bindings_of, Next, is_nil, end_read, start_meant, start_read, text_read, read_at, next_by, next}
use Rattle.reader.specs.Held.{Held}
use Rattle.reader.proofs.Progress.{onward}
use Rattle.reader.proofs.NextStable.{OpenNext, next_kept}
use Rattle.model.specs.Theory.{Record}
use Rattle.model.specs.Elements.{element_of}
use Rattle.model.specs.Tree.{start}
use Rattle.model.specs.Records.{Body}
use Rattle.model.specs.Stream.{State, entries_at, after}
use Rattle.model.specs.Dispatch.{dispatch}
use Rattle.sessions.specs.Sessions.{reader_of, state_of, with_place}
use Rattle.sessions.specs.Stepping.{Plan, event, start_plan, own_declarations, event_plan, plan_by, plan_of}
use Rattle.sessions.specs.Session.{Session}
use Rattle.sessions.proofs.Sound.{LevelSound, Sound}
use Rattle.sessions.proofs.Views.{state_place, fits_place}
use Rattle.sessions.proofs.Behind.{Behind, behind}
use Rattle.sessions.proofs.SoundStep.{sound_step}
use Rattle.sessions.proofs.MoreScene.{OpenPlan, sound_more, plan_kept}
use Rattle.demands.proofs.Late.{Targets, LateTagged, LateEnded, LateBegin, tag_ext, tag_late, end_tag_ext, end_tag_late, begin_ext}
use Rattle.demands.proofs.LateNext.{MeaningNumber, meaning_number}

-- ---- the reader
-- an event but a text goes beyond n
abbrev pub Past : ℕ → Next → Type 0
Past n (scene.event (scene.start e) z) = n < z.place
Past n (scene.event (scene.text w) z) = Unit {0}
Past n (scene.event (scene.end part at) z) = n < z.place
Past n (scene.refusal m p) = Unit {0}
Past n (scene.finished p) = Unit {0}

abbrev need : ℕ → ℕ
need j = 3

module _ (s t : List ℕ) (z : ReaderState) where
  targets : Targets need (s ++ t)
  targets at less question x = omega arith

  P : Next → Type 0
  P = Past (length s)

  text_past : (at : ℕ) (r : Read) → P (text_read (s ++ t) z at r)
  unfolding P
  text_past at (Ok j) = tt
  text_past at (Err x) = tt

  ended_past : (at : ℕ) (o : Open) (os : List Open) (r : Ended) → LateEnded need (length s) r → P (end_read (s ++ t) at (o ∷ os) r)
  unfolding P
  ended_past at o os (Err x) l = tt
  ended_past at o os (Ok e) l = holds_cond P (same_list (bytes_of (s ++ t) (whole_span e.name)) (bytes_of (s ++ t) o.name)) (λ q. l) (λ q. tt)

  tagged_past : (at : ℕ) (os : List Open) (r : TagRead) (a : Tagged) → LateTagged need (length s) a → P (start_read (s ++ t) at os r a)
  unfolding P
  tagged_past at os r (Err x) l = tt
  tagged_past at os r (Ok e) l = by (meaning_of (s ++ t) (bindings_of os) e.name r.attrs)
    where
      by : (m : Meaning) → P (start_meant at os e m)
      by (refused n) = tt
      by (meant x as' own) = l

  -- where the shorter scene ends too soon
  end_past : (at : ℕ) (os : List Open) → OpenNext (end_read s at os (end_tag_at s (at + 2))) → P (end_read (s ++ t) at os (end_tag_at (s ++ t) (at + 2)))
  unfolding P
  end_past at [] c = tt
  end_past at (o ∷ os) c =
      ⊎_elim (λ e. subst (λ (r : Ended). P (end_read (s ++ t) at (o ∷ os) r)) (sym e) (same (end_tag_at s (at + 2)) c)) (ended_past at o os (end_tag_at (s ++ t) (at + 2))) (end_tag_ext need s t targets (at + 2))
    where
      same : (r : Ended) → OpenNext (end_read s at (o ∷ os) r) → P (end_read (s ++ t) at (o ∷ os) r)
      same (Err x) c = tt
      same (Ok e) c = absurd (holds_cond (λ (n : Next). OpenNext n → ⊥) (same_list (bytes_of s (whole_span e.name)) (bytes_of s o.name)) (λ q c. c) (λ q c. omega arith) c)

  start_past : (at : ℕ) (os : List Open) → OpenNext (start_read s at os (tag_at s (at + 1)) (tag_at s (at + 1)).answer) → P (start_read (s ++ t) at os (tag_at (s ++ t) (at + 1)) (tag_at (s ++ t) (at + 1)).answer)
  unfolding P
  start_past at os c =
      ⊎_elim (λ e. subst (λ (r : TagRead). P (start_read (s ++ t) at os r r.answer)) (sym e) (same (tag_at s (at + 1)) (tag_at s (at + 1)).answer c))
      (tagged_past at os (tag_at (s ++ t) (at + 1)) (tag_at (s ++ t) (at + 1)).answer)
      (tag_ext need s t targets (at + 1))
    where
      never : (e : Tag) (m : Meaning) → MeaningNumber m → OpenNext (start_meant at os e m) → ⊥
      never e (refused n) k c = omega arith
      never e (meant x as' own) k c = c

      same : (r : TagRead) (a : Tagged) → OpenNext (start_read s at os r a) → P (start_read (s ++ t) at os r a)
      same r (Err x) c = tt
      same r (Ok e) c = absurd (never e (meaning_of s (bindings_of os) e.name r.attrs) (meaning_number s (bindings_of os) e.name r.attrs) c)

  begun_past : (inside : Bool) → OpenNext (read_at s z (begin_at s z.place inside z.closed)) → P (read_at (s ++ t) z (begin_at (s ++ t) z.place inside z.closed))
  unfolding P
  begun_past inside c =
      ⊎_elim (λ e. subst (λ (b : BeginRead). P (read_at (s ++ t) z b)) (sym e) (same (begin_at s z.place inside z.closed) c))
      (late (begin_at (s ++ t) z.place inside z.closed))
      (begin_ext need s t targets z.place inside z.closed)
    where
      same : (b : BeginRead) → OpenNext (read_at s z b) → P (read_at (s ++ t) z b)
      same (Err x) c = tt
      same (Ok begin.Finished) c = tt
      same (Ok (begin.Text at)) c = text_past at (text_end (s ++ t) at)
      same (Ok (begin.End at)) c = end_past at z.opened c
      same (Ok (begin.Start at)) c = start_past at z.opened c

      ends : (at : ℕ) (os : List Open) → LateEnded need (length s) (end_tag_at (s ++ t) (at + 2)) → P (end_read (s ++ t) at os (end_tag_at (s ++ t) (at + 2)))
      ends at [] l = tt
      ends at (o ∷ os) l = ended_past at o os (end_tag_at (s ++ t) (at + 2)) l

      late : (b : BeginRead) → LateBegin need (length s) b → P (read_at (s ++ t) z b)
      late (Err x) l = tt
      late (Ok begin.Finished) l = tt
      late (Ok (begin.Text at)) l = text_past at (text_end (s ++ t) at)
      late (Ok (begin.End at)) l = ends at z.opened (end_tag_late need s t targets (at + 2) (omega arith))
      late (Ok (begin.Start at)) l = tagged_past at z.opened (tag_at (s ++ t) (at + 1)) (tag_at (s ++ t) (at + 1)).answer (tag_late need s t targets (at + 1) l)

  next_past : OpenNext (next s z) → Past (length s) (next (s ++ t) z)
  unfolding next P
  next_past = by z.awaited z.opened
    where
      by : (a : Bool) (os : List Open) → OpenNext (next_by s z a os) → P (next_by (s ++ t) z a os)
      by true (o ∷ os) c = absurd c
      by true [] c = begun_past false c
      by false os c = begun_past (not (is_nil os)) c

  -- what does not go beyond the first bytes is read from them
  pub next_up_to : Held s z → (x : Next) → next (s ++ t) z ≡ x → (Past (length s) x → ⊥) → next s z ≡ x
  next_up_to h x q k = sym (next_kept s t z h (λ c. k (subst (Past (length s)) q (next_past c)))) ∙ q

-- ---- the session
abbrev pub Before : Table → List ℕ → Session → Type 0
Before t s z = Sound t (take z.place s) z

-- a planned event stays planned
plan_event : (t : Table) (s : List ℕ) (z : Session) (e : scene.Event) (z' : ReaderState) → OpenPlan (event_plan t s z e z') → ⊥
unfolding start_plan
plan_event t s z (scene.start e) z' =
    holds_cond Closed (leb 64 z.scope.depth) (λ q c. omega arith)
    (λ q. holds_cond Closed (ltb 64 (z.scope.bound + length (own_declarations z'.opened))) (λ q c. omega arith)
    (λ q. holds_cond Closed (ltb 16 (length (entries_at (dispatch t) (state_of t s z).levels (element_of t s e)))) (λ q c. omega arith)
    (λ q. holds_cond Closed (ltb 65536 (after (dispatch t) (state_of t s z) (start (element_of t s e))).units) (λ q c. omega arith) (λ q c. c))))
  where
    Closed : Plan → Type 0
    Closed x = OpenPlan x → ⊥
plan_event t s z (scene.text w) z' = λ c. c
plan_event t s z (scene.end part at) z' = λ c. c

module _ (t : Table) (s : List ℕ) (z : Session) (h : Before t s z) where
  pub up_to : (k : ℕ) → z.place ≤ k → Sound t (take k s) z
  up_to k le =
      let first : take z.place (take k s) ≡ take z.place s = take-take z.place k s le in
      subst (λ (l : List ℕ). Sound t l z) (take-append-drop z.place (take k s)) (sound_more t (take z.place (take k s)) (drop z.place (take k s)) z (rw first h))

  pub before_more : (r : List ℕ) → z.place ≤ length s → Before t (s ++ r) z
  before_more r le = rw (take-append-le z.place s r le) h

-- only the place is another
moved : (t : Table) (s : List ℕ) (z : Session) (place : ℕ) → place ≤ length s → Sound t s z → Sound t s (with_place z place)
moved t s z place le h =
    record {
      fits = fits_place z place h.fits;
      held = record { place = le; opened = h.held.opened; awaited = h.held.awaited; closed = h.held.closed };
      levels = subst (λ (x : State (dispatch t)). All (LevelSound t s z.units) x.levels) (sym (state_place z place t s)) h.levels;
      few_units = h.few_units;
    }

module _ (table : List ℕ) (ok : Accepted table ≡ true) (s : List ℕ) (short : length s ≤ 16777215) (z : Session) (sound : Sound (decode table) s z) (h : Before (decode table) s z) where
  pub before_step : (p : ℕ) (rs : List (Record Body ℕ)) (z'' : Session) → plan_of (decode table) s z ≡ event p rs z'' → Before (decode table) s z''
  unfolding plan_of
  before_step p rs z'' q = by b.happened b.read
    where
      t : Table
      t = decode table

      b : Behind t s z p rs z''
      b = behind table ok s short z sound p rs z'' q

      there : b.state.place ≡ z''.place
      there = ap (λ (w : ReaderState). w.place) (sym b.reader)

      on : (z.place ≤ z''.place) × (z''.place ≤ length s)
      on = ⊎_elim (λ l. omega (arith, there)) (λ a. omega (arith, there, sound.held.place)) (onward s (reader_of z) b.state b.happened b.read)

      -- the bytes up to its place, and those behind
      first : List ℕ
      first = take z''.place s

      rest : List ℕ
      rest = drop z''.place s

      whole : first ++ rest ≡ s
      whole = take-append-drop z''.place s

      size : length first ≡ z''.place
      size = length-take-le z''.place s on.1

      here : Sound t first z
      here = up_to t s z h z''.place on.0

      read_on : (e : scene.Event) → next s (reader_of z) ≡ scene.event e b.state → (Past (length first) (scene.event e b.state) → ⊥) → Sound t first z''
      read_on e r k =
          let again : next first (reader_of z) ≡ scene.event e b.state = next_up_to first rest (reader_of z) here.held (scene.event e b.state) (rw whole r) k in
          let planned : OpenPlan (plan_of t first z) → ⊥ = rw again (plan_event t first z e b.state) in
          let plan : plan_of t first z ≡ event p rs z'' = sym (plan_kept t first rest z here planned) ∙ rw whole q in
          sound_step table ok first z here (omega (arith, size, on.1)) p rs z'' plan

      by : (e : scene.Event) → next s (reader_of z) ≡ scene.event e b.state → Sound t (take z''.place s) z''
      by (scene.start e) r = read_on (scene.start e) r (λ l. omega (arith, size, there))
      by (scene.text w) r =
          let plan : event_plan t s z (scene.text w) b.state ≡ event p rs z'' = sym (ap (plan_by t s z) r) ∙ q in
          let is : with_place z b.state.place ≡ z'' = cc in
          subst (Sound t first) is (moved t first z b.state.place (omega (arith, size, there)) here)
      by (scene.end part at) r = read_on (scene.end part at) r (λ l. omega (arith, size, there))
