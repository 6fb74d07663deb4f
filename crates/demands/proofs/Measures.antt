-- What the limits 21 to 24 measure, by the reader's and the stream's states; the model's measures are these.
--     inner_strands                           the strands of the innermost level
--     WithinAt, within_more, sound_within     a state within the limits, as every sound session's is; also when more bytes come
--     depth_is, strands_are, units_are        what the model has of the k-th event; stream-on: the state behind it
--     within_passed                           an event between two states within the limits passes none
use Prim.Native.Nat.{ℕ, zero, suc, ◌≤◌, ◌<◌}
use mathlib.Core.Path.{◌≡◌, refl, sym, ap, subst, ◌∙◌}
use mathlib.Core.List.{List, [], ◌∷◌, ◌++◌, map, map-append}
use mathlib.Core.Bool.{Bool, false, cond}
use mathlib.Core.Logic.{⊎_elim}
use mathlib.Core.Option.{some}
use native.Mathlib.Omega.{arith}
use borrow.Author.Tests.{le-ltb}
use lib.ListN.{length, take, drop, get_or, length-map, take-append-drop}
use lib.Seq.{split_at, take-suc, take_all}
use Rattle.laws.specs.Gather.{gather}
use Rattle.laws.specs.Members.{All}
use Rattle.laws.specs.Reading.{le_or_lt}
use Rattle.laws.proofs.Lists.{length_tabulate}
use Rattle.table.specs.Table.{Table}
use Rattle.reader.specs.Events as scene
use Rattle.reader.specs.Events.{ReaderState, fresh_reader, bindings_of, next, events}
use Rattle.reader.specs.Spans.{span}
use Rattle.reader.specs.declared.Span.{Span}
use Rattle.reader.specs.Stored.{binding_in}
use Rattle.reader.specs.Scope.{opens_of}
use Rattle.reader.proofs.Held.{held_fresh}
use Rattle.reader.proofs.Opens.{opens_bindings}
use Rattle.reader.proofs.EventsFirst.{state_then, state_after, state_more, event_at, events_end}
use Rattle.model.specs.Tree.{TreeEvent, start, text, end, still_open, completed, tree_of}
use Rattle.model.specs.Elements.{Element, element_of}
use Rattle.model.specs.Stream.{Level, State, Entry, entries_at, after, reached, HeldStrand}
use Rattle.model.specs.Model.{assigned_at, units_opened, model_of, assigned_of, OneKeeps}
use Rattle.model.specs.Dispatch.{dispatch, told}
use Rattle.model.proofs.Attributes.{agree}
use Rattle.model.proofs.Cut.{IsPrefix}
use Rattle.model.proofs.Steps.{reached_step, levels_open}
use Rattle.model.proofs.Assigned.{modes_at, assigned_count}
use Rattle.model.proofs.Opened.{model_units}
use Rattle.sessions.specs.Sessions.{levels_in, reader_of, state_of}
use Rattle.sessions.specs.Session.{Session}
use Rattle.sessions.proofs.Sound.{LevelSound, Sound}
use Rattle.sessions.proofs.NewStrands.{new_length}
use Rattle.demands.specs.Scenes.{behind_next, reader_after}
use Rattle.demands.specs.Limits.{told_all, depth_at, bound_at, strands_at, units_at, passed}
use Rattle.demands.proofs.Prefixes.{told_first, told_first_length, told_first_more, told_prefix}

-- ---- states
-- the stream's state behind so many events of a scene
abbrev pub stream_after : (t : Table) → List ℕ → ℕ → State (dispatch t)
stream_after t s k = reached (dispatch t) (told_first t s k)

-- the strands of the innermost level
abbrev pub innermost : (t : Table) → List (Level (dispatch t)) → ℕ
innermost t [] = 0
innermost t (l ∷ ls) = length l.strands

inner_few : (t : Table) (s : List ℕ) (units : ℕ) (ls : List (Level (dispatch t))) → All (LevelSound t s units) ls → innermost t ls ≤ 16
inner_few t s units [] a = omega arith
inner_few t s units (l ∷ ls) a = a.0.few_strands

-- a text and an end have them
pub inner_strands : (t : Table) (ls : List (Level (dispatch t))) (u : ℕ) (v : Span)
    → (length (modes_at (dispatch t) (record { levels = ls; units = u }) (text v)) ≡ innermost t ls) × (length (modes_at (dispatch t) (record { levels = ls; units = u }) (end v)) ≡ innermost t ls)
inner_strands t [] u v = (refl, refl)
inner_strands t (l ∷ ls) u v = (length-map l.strands (λ (x : HeldStrand ℕ). x.mode), length-map l.strands (λ (x : HeldStrand ℕ). x.mode))

pub record WithinAt (t : Table) (s : List ℕ) (k : ℕ) : Type 0 where
  pub levels : length (stream_after t s k).levels ≤ 64
  pub bindings : length (bindings_of (reader_after k s fresh_reader).opened) ≤ 64
  pub strands : innermost t (stream_after t s k).levels ≤ 16
  pub units : (stream_after t s k).units ≤ 65536

-- the reader's state, without options
pub reader_after_lem : (s : List ℕ) (w : ReaderState) (k : ℕ) (z : ReaderState) → state_after k s z ≡ some w → reader_after k s z ≡ w
unfolding state_after reader_after
reader_after_lem s w zero z e = cc
reader_after_lem s w (suc k) z e = by (next s z) e (λ z' q. reader_after_lem s w k z' q)
  where
    by : (x : scene.Next) → state_then (λ (z' : ReaderState). state_after k s z') x ≡ some w → ((z' : ReaderState) → state_after k s z' ≡ some w → reader_after k s z' ≡ w) → reader_after k s (behind_next z x) ≡ w
    by (scene.event v z') q ih = ih z' q
    by (scene.refusal n p) q ih = let y : ◌≡◌ {A = ℕ} 0 1 = cc in absurd (omega arith)
    by (scene.finished p) q ih = let y : ◌≡◌ {A = ℕ} 0 1 = cc in absurd (omega arith)

pub levels_length : (t : Table) (s : List ℕ) (z : Session) (d : ℕ) → length (levels_in t s z d) ≡ d
unfolding levels_in
levels_length t s z zero = refl
levels_length t s z (suc d) = ap suc (levels_length t s z d)

state_behind : (s : List ℕ) (k : ℕ) → k ≤ length (events s) → (w : ReaderState) × (state_after k s fresh_reader ≡ some w)
state_behind s k le =
    ⊎_elim
    (λ ge. let w = events_end s in (w.0, subst (λ (i : ℕ). state_after i s fresh_reader ≡ some w.0) (omega arith) w.1))
    (λ lt. let r = event_at s (scene.text (span 0 0)) k lt in (r.before, r.reached))
    (le_or_lt (length (events s)) k)

pub within_more : (t : Table) (s r : List ℕ) (k : ℕ) → k ≤ length (events s) → WithinAt t s k → WithinAt t (s ++ r) k
within_more t s r k le w =
    let x = state_behind s k le in
    let same : told_first t (s ++ r) k ≡ told_first t s k = told_first_more t s r k le in
    let reader : reader_after k (s ++ r) fresh_reader ≡ reader_after k s fresh_reader = reader_after_lem (s ++ r) x.0 k fresh_reader (state_more s x.0 k fresh_reader x.1 r (held_fresh s)) ∙ sym (reader_after_lem s x.0 k fresh_reader x.1) in
    record { levels = rw same w.levels; bindings = rw reader w.bindings; strands = rw same w.strands; units = rw same w.units }

pub bound_is : (t : Table) (s : List ℕ) (z : Session) → Sound t s z → length (bindings_of (opens_of z.scope)) ≡ z.scope.bound
bound_is t s z h = ap length (opens_bindings z.scope h.fits.counted) ∙ length_tabulate (binding_in z.scope.bindings) 0 z.scope.bound

pub sound_within : (t : Table) (s : List ℕ) (z : Session) (k : ℕ) → Sound t s z → state_after k s fresh_reader ≡ some (reader_of z) → state_of t s z ≡ stream_after t s k → WithinAt t s k
sound_within t s z k h reader state =
    record {
      levels = rw (← state) (omega (arith, levels_length t s z z.scope.depth, h.fits.shallow));
      bindings = rw (reader_after_lem s (reader_of z) k fresh_reader reader) (omega (arith, bound_is t s z h, h.fits.few));
      strands = rw (← state) (inner_few t s z.units (levels_in t s z z.scope.depth) h.levels);
      units = rw (← state) h.few_units;
    }

-- the number of the first of four tests that holds
abbrev pub number_by : Bool → Bool → Bool → Bool → ℕ
number_by a b c d = cond a 21 (cond b 22 (cond c 23 (cond d 24 0)))

none_passed : (a b c d : Bool) → a ≡ false → b ≡ false → c ≡ false → d ≡ false → number_by a b c d ≡ 0
none_passed a b c d p q r u = rw (p, q, r, u)

-- ---- the model's measures
take_told : {A B : Type 0} (f : A → B) (n : ℕ) (l : List A) → take n (map f l) ≡ map f (take n l)
take_told f zero l = refl
take_told f (suc n) [] = refl
take_told f (suc n) (x ∷ l) = ap (λ r. f x ∷ r) (take_told f n l)

module _ (t : Table) (s : List ℕ) where
  pub whole_prefix : IsPrefix (dispatch t) (told_all t s)
  whole_prefix =
      let w = events_end s in
      subst (λ (es : List scene.Event). IsPrefix (dispatch t) (map (told t s) es)) (take_all (length (events s)) (events s) (omega arith)) (told_prefix t s (length (events s)) w.0 w.1).prefix

  module _ (k : ℕ) (lt : k < length (events s)) where
    pub depth_is : depth_at t s k ≡ length (stream_after t s (suc k)).levels
    depth_is =
        ap (λ (es : List (TreeEvent (dispatch t))). length (still_open (dispatch t) [] es)) (take_told (told t s) (suc k) (events s))
        ∙ sym (ap length (levels_open (dispatch t) (told_first t s (suc k))))
        ∙ length-map (stream_after t s (suc k)).levels (λ (l : Level (dispatch t)). l.at)

    -- the state behind it
    pub stream_on : (d : scene.Event) → stream_after t s (suc k) ≡ after (dispatch t) (stream_after t s k) (told t s (get_or (events s) k d))
    stream_on d =
        let e = get_or (events s) k d in
        let more : told_first t s (suc k) ≡ told_first t s k ++ (told t s e ∷ []) = ap (map (told t s)) (take-suc (events s) k d lt) ∙ map-append (told t s) (take k (events s)) (e ∷ []) in
        ap (reached (dispatch t)) more ∙ reached_step (dispatch t) (told_first t s k) (told t s e)

    pub strands_are : (d : scene.Event) → strands_at t s k ≡ length (modes_at (dispatch t) (stream_after t s k) (told t s (get_or (events s) k d)))
    strands_are d =
        let first = told_first t s k in
        let e = told t s (get_or (events s) k d) in
        let rest = map (told t s) (drop (suc k) (events s)) in
        let split : told_all t s ≡ first ++ (e ∷ rest) = ap (map (told t s)) (split_at (events s) k d lt) ∙ map-append (told t s) (take k (events s)) (get_or (events s) k d ∷ drop (suc k) (events s)) in
        ap (λ (es : List (TreeEvent (dispatch t))). length (get_or (assigned_of (dispatch t) (tree_of (dispatch t) (completed (dispatch t) es))) k (assigned_at 0 [] [])).strands) split
        ∙ ap (λ (i : ℕ). length (get_or (assigned_of (dispatch t) (tree_of (dispatch t) (completed (dispatch t) (first ++ (e ∷ rest))))) i (assigned_at 0 [] [])).strands) (sym (told_first_length t s k (omega arith)))
        ∙ assigned_count (dispatch t) first rest e (subst (IsPrefix (dispatch t)) split whole_prefix) (assigned_at 0 [] [])

    module _ (one : (m : ℕ) (e : Element) → OneKeeps (t.element_rules m e.space.class)) where
      pub units_are : units_at t s k ≡ (stream_after t s (suc k)).units
      units_are =
          let first = told_first t s (suc k) in
          let rest = map (told t s) (drop (suc k) (events s)) in
          let split : told_all t s ≡ first ++ rest = ap (map (told t s)) (sym (take-append-drop (suc k) (events s))) ∙ map-append (told t s) (take (suc k) (events s)) (drop (suc k) (events s)) in
          ap (λ (es : List (TreeEvent (dispatch t))). length (units_opened (gather (λ x. x) (take (suc k) (model_of (dispatch t) (tree_of (dispatch t) (completed (dispatch t) es))))))) split
          ∙ ap (λ (i : ℕ). length (units_opened (gather (λ x. x) (take i (model_of (dispatch t) (tree_of (dispatch t) (completed (dispatch t) (first ++ rest)))))))) (sym (told_first_length t s (suc k) (omega arith)))
          ∙ model_units (dispatch t) one (agree t) first rest (subst (IsPrefix (dispatch t)) split whole_prefix)

      few_strands : (e : scene.Event) → stream_after t s (suc k) ≡ after (dispatch t) (stream_after t s k) (told t s e) → WithinAt t s k → WithinAt t s (suc k) → length (modes_at (dispatch t) (stream_after t s k) (told t s e)) ≤ 16
      unfolding after
      few_strands (scene.start e) on w w' =
          omega (arith, length-map (entries_at (dispatch t) (stream_after t s k).levels (element_of t s e)) (λ (x : Entry). x.strand.mode), w'.strands, ap (λ (y : State (dispatch t)). innermost t y.levels) on, new_length t (stream_after t s k) (element_of t s e))
      few_strands (scene.text v) on w w' = omega (arith, (inner_strands t (stream_after t s k).levels (stream_after t s k).units v).0, w.strands)
      few_strands (scene.end part place) on w w' = omega (arith, (inner_strands t (stream_after t s k).levels (stream_after t s k).units part).1, w.strands)

      pub within_passed : WithinAt t s k → WithinAt t s (suc k) → passed t s k ≡ 0
      unfolding passed
      within_passed w w' =
          let d : scene.Event = scene.text (span 0 0) in
          let e = get_or (events s) k d in
          none_passed _ _ _ _
          (le-ltb _ (depth_at t s k) (omega (arith, depth_is, w'.levels)))
          (le-ltb _ (bound_at s k) (omega (arith, w'.bindings)))
          (le-ltb _ (strands_at t s k) (omega (arith, strands_are d, few_strands e (stream_on d) w w')))
          (le-ltb _ (units_at t s k) (omega (arith, units_are, w'.units)))
