-- A scene's first events, as the dispatcher takes them, are the first of a document's, with as many elements open as the reader has.
--     told_prefix, may_follow     by the reader's state behind them
--     told_first_on, -more        one event more; more bytes behind the scene
use Prim.Native.Nat.{ℕ, zero, suc, ◌+◌, ◌≤◌}
use mathlib.Core.Path.{◌≡◌, refl, sym, ap, subst, ◌∙◌}
use mathlib.Core.List.{List, [], ◌∷◌, ◌++◌, map, map-append, tail}
use mathlib.Core.Bool.{true, false}
use mathlib.Core.Option.{some}
use native.Mathlib.Numerals.{add-one}
use native.Mathlib.Omega.{arith}
use lib.ListN.{length, take, length-map}
use lib.Seq.{take-take, length-take-le}
use Rattle.laws.specs.Members.{All}
use Rattle.laws.proofs.Flags.{differ}
use Rattle.table.specs.Table.{Table}
use Rattle.reader.specs.Events as scene
use Rattle.reader.specs.Events.{Open, ReaderState, fresh_reader, Next, next, event_then, events_from, events}
use Rattle.reader.specs.Spans.{span}
use Rattle.reader.specs.Held.{Held}
use Rattle.reader.proofs.Held.{EventHeld, held_fresh, held_next, event_inside}
use Rattle.reader.proofs.EventsFirst.{events_first, state_after, event_at}
use Rattle.model.specs.Theory.{Theory}
use Rattle.model.specs.Tree.{TreeEvent, start, text, end, still_open}
use Rattle.model.specs.Records.{OpenElement}
use Rattle.model.specs.Dispatch.{dispatch, told}
use Rattle.model.proofs.Cut.{IsPrefix}
use Rattle.model.proofs.Steps.{MayFollow, prefix_step}
use Rattle.sessions.proofs.MoreScene.{told_more}
use Rattle.demands.proofs.Goes.{Goes, event_goes, then_closed, not_closed, Onward, state_count, goes_on}

-- the first k events of a scene as the dispatcher takes them
abbrev pub told_first : (t : Table) → List ℕ → ℕ → List (TreeEvent (dispatch t))
told_first t s k = map (told t s) (take k (events s))

pub told_first_on : (t : Table) (s : List ℕ) (k : ℕ) (e : scene.Event) (w : ReaderState) → Onward s k e w → told_first t s (k + 1) ≡ told_first t s k ++ (told t s e ∷ [])
told_first_on t s k e w on = ap (map (told t s)) on.events_on ∙ map-append (told t s) (take k (events s)) (e ∷ [])

pub told_first_length : (t : Table) (s : List ℕ) (k : ℕ) → k ≤ length (events s) → length (told_first t s k) ≡ k
told_first_length t s k le = length-map (take k (events s)) (told t s) ∙ length-take-le k (events s) le

-- ---- a longer scene
events_held : (s : List ℕ) (n : ℕ) (z : ReaderState) → Held s z → All (EventHeld s) (events_from n s z)
unfolding events_from
events_held s zero z h = tt
events_held s (suc n) z h = by (next s z) refl (λ z' k. events_held s n z' k)
  where
    by : (x : Next) → next s z ≡ x → ((z' : ReaderState) → Held s z' → All (EventHeld s) (events_from n s z')) → All (EventHeld s) (event_then (λ (z' : ReaderState). events_from n s z') x)
    by (scene.event e z') q ih = (event_inside s z h e z' q, ih z' (held_next s z h e z' q))
    by (scene.refusal j p) q ih = tt
    by (scene.finished p) q ih = tt

told_same : (t : Table) (s r : List ℕ) (k : ℕ) (es : List scene.Event) → All (EventHeld s) es → map (told t (s ++ r)) (take k es) ≡ map (told t s) (take k es)
told_same t s r zero es h = refl
told_same t s r (suc k) [] h = refl
told_same t s r (suc k) (e ∷ es) h = rw (told_more t s r e h.0, told_same t s r k es h.1)

pub told_first_more : (t : Table) (s r : List ℕ) (k : ℕ) → k ≤ length (events s) → told_first t (s ++ r) k ≡ told_first t s k
unfolding events
told_first_more t s r k le =
    let same : take k (events (s ++ r)) ≡ take k (events s) = sym (take-take k (length (events s)) (events (s ++ r)) le) ∙ ap (take k) (events_first s r) in
    ap (map (told t (s ++ r))) same ∙ told_same t s r k (events s) (events_held s _ fresh_reader (held_fresh s))

-- ---- by the reader's state
still_open_on : (Θ : Theory) (es : List (TreeEvent Θ)) (e : TreeEvent Θ) (around : List Θ.Kept) → still_open Θ around (es ++ (e ∷ [])) ≡ still_open Θ (still_open Θ around es) (e ∷ [])
still_open_on Θ [] e around = refl
still_open_on Θ (start σ ∷ es) e around = still_open_on Θ es e (Θ.kept_of σ ∷ around)
still_open_on Θ (text τ ∷ es) e around = still_open_on Θ es e around
still_open_on Θ (end ε ∷ es) e around = still_open_on Θ es e (tail around)

tail_length : {A B : Type 0} (xs : List A) (ys : List B) → length xs ≡ length ys → length (tail xs) ≡ length (tail ys)
tail_length [] [] e = refl
tail_length [] (y ∷ ys) e = absurd (omega arith)
tail_length (x ∷ xs) [] e = absurd (omega arith)
tail_length (x ∷ xs) (y ∷ ys) e = omega arith

module _ (t : Table) (s : List ℕ) where
  abbrev open_after : ℕ → List OpenElement
  open_after k = still_open (dispatch t) [] (told_first t s k)

  pub record Prefix (k : ℕ) (w : ReaderState) : Type 0 where
    pub prefix : IsPrefix (dispatch t) (told_first t s k)
    pub as_many : length (still_open (dispatch t) [] (told_first t s k)) ≡ length w.opened
    pub closed : (k ≡ 0 → ⊥) → w.opened ≡ [] → w.closed ≡ true

  module _ (k : ℕ) (w : ReaderState) (q : state_after k s fresh_reader ≡ some w) (h : Prefix k w) (e : scene.Event) (w' : ReaderState) (n : next s w ≡ scene.event e w') where
    follow : MayFollow (dispatch t) (told_first t s k) (open_after k) (told t s e)
    unfolding state_after
    follow =
        by (told_first t s k) (open_after k) (told_first_length t s k (omega (arith, state_count s k w q))) h.as_many e (event_goes s w e w' n) (not_closed s w e w' n)
      where
        first : k ≡ 0 → w.opened ≡ []
        first e =
            let same : some fresh_reader ≡ some w = ap (λ (i : ℕ). state_after i s fresh_reader) (sym e) ∙ q in
            let r : fresh_reader ≡ w = cc in
            sym (ap (λ (z : ReaderState). z.opened) r)

        none : (os : List Open) → 0 ≡ length os → os ≡ []
        none [] e = refl
        none (o ∷ os) e = absurd (omega arith)

        by : (es : List (TreeEvent (dispatch t))) (around : List OpenElement) → length es ≡ k → length around ≡ length w.opened → (e : scene.Event) → Goes w (scene.event e w') → (w.opened ≡ [] → w.closed ≡ false) → MayFollow (dispatch t) es around (told t s e)
        by [] around m o (scene.start e) g c = tt
        by [] around m o (scene.text v) g c = g.0 (first (sym m))
        by [] around m o (scene.end part at) g c = g.0 (first (sym m))
        by (x ∷ es) [] m o e g c = differ (sym (h.closed (λ j. omega arith) (none w.opened o)) ∙ c (none w.opened o))
        by (x ∷ es) (κ ∷ around) m o e g c = tt

    prefix_on : Prefix (k + 1) w'
    prefix_on =
        record {
          prefix = rw more (prefix_step (dispatch t) (told_first t s k) (told t s e) h.prefix follow);
          as_many = rw (more, still_open_on (dispatch t) (told_first t s k) (told t s e) []) (by (open_after k) h.as_many e (event_goes s w e w' n));
          closed = λ j. then_closed s w e w' n;
        }
      where
        more : told_first t s (k + 1) ≡ told_first t s k ++ (told t s e ∷ [])
        more = told_first_on t s k e w' (goes_on s k w e w' q n)

        by : (around : List OpenElement) → length around ≡ length w.opened → (e : scene.Event) → Goes w (scene.event e w') → length (still_open (dispatch t) around (told t s e ∷ [])) ≡ length w'.opened
        by around o (scene.start e) g = rw g.0.1 (omega arith)
        by around o (scene.text v) g = rw g.1 o
        by around o (scene.end part at) g = rw g.1 (tail_length around w.opened o)

  pub told_prefix : (k : ℕ) (w : ReaderState) → state_after k s fresh_reader ≡ some w → Prefix k w
  unfolding state_after
  told_prefix zero w q =
      let same : fresh_reader ≡ w = cc in
      subst (Prefix 0) same (record { prefix = tt; as_many = refl; closed = λ n. absurd (n refl) })
  told_prefix (suc k) w q =
      let r = event_at s (scene.text (span 0 0)) k (omega (arith, state_count s (suc k) w q)) in
      let there : state_after (k + 1) s fresh_reader ≡ some w = rw (add-one k) q in
      let same : r.after ≡ w = cc r.passed in
      let on : Prefix (k + 1) r.after = prefix_on k r.before r.reached (told_prefix k r.before r.reached) _ r.after r.told in
      subst (Prefix (suc k)) same (rw (add-one k) at on)

  pub may_follow : (k : ℕ) (w : ReaderState) → state_after k s fresh_reader ≡ some w → (e : scene.Event) (w' : ReaderState) → next s w ≡ scene.event e w' → MayFollow (dispatch t) (told_first t s k) (still_open (dispatch t) [] (told_first t s k)) (told t s e)
  may_follow k w q e w' n = follow k w q (told_prefix k w q) e w' n
