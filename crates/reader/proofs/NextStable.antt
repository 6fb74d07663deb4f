-- The next event stays when more bytes come, and so does a refusal but by 1; up to the place of a refusal the scene ends too soon.
--     next_kept                          every answer but 1 and 9
--     next_stable, refusal_stable        the same of an answer that is known
--     next_placed, short, next_short     the bytes before a refusal's place
use Rattle.std.specs.Prelude.{Ok, Err}
use Prim.Native.Nat.{ℕ, ◌+◌, ◌-◌, ◌≤◌, ◌<◌}
use mathlib.Core.Path.{◌≡◌, refl, sym, ap, subst, ◌∙◌}
use mathlib.Core.List.{List, [], ◌∷◌, ◌++◌}
use mathlib.Core.Bool.{Bool, true, false, not}
use mathlib.Core.Logic.{◌⊎◌, inl, inr, ⊎_elim}
use native.Mathlib.Omega.{arith}
use lib.ListN.{length, take, drop, take-append-drop}
use lib.Seq.{length-take-le}
use Rattle.laws.specs.Reading.{le_or_lt}
use Rattle.laws.specs.Members.{All}
use Rattle.laws.proofs.Kept.{Kept}
use Rattle.lexer.specs.Values.{text_end}
use Rattle.lexer.specs.Tags.{TagRead, tag_at, end_tag_at}
use Rattle.lexer.specs.Begins.{begin_at}
use Rattle.lexer.specs.declared.Stop.{Stop}
use Rattle.lexer.specs.declared.Stop.TheVariants.{Bad, Long, Cut}
use Rattle.lexer.specs.Reads.{Read, Tagged, Ended, BeginRead}
use Rattle.lexer.specs.declared.Begin.TheVariants as begin
use Rattle.lexer.proofs.ValueLaws.{value_stable}
use Rattle.lexer.proofs.Inside.{TaggedInside, TagReadInside, tag_inside, EndedInside, end_tag_inside}
use Rattle.lexer.proofs.Stable.{CutTag, tag_stable, end_tag_stable}
use Rattle.lexer.proofs.BeginLaws.{CutBegin, begin_stable}
use Rattle.reader.specs.Spans.{whole_span}
use Rattle.reader.specs.Events.{Event, end, Open, ReaderState, bindings_of, Next, event, refusal, finished, stopped, is_nil, left, end_read, start_meant, start_read, text_read, read_at, next_by, next}
use Rattle.reader.specs.Held.{OpenHeld, Held}
use Rattle.reader.specs.declared.Span.{Span}
use Rattle.reader.proofs.Held.{NextHeld, next_held, bindings_in_lem}
use Rattle.reader.proofs.MoreBytes.{bytes_more, part_more, meaning_more, held_more}

-- the answers that may change: 1, and 9
abbrev pub OpenNext : Next → Type 0
OpenNext (event e z) = ⊥
OpenNext (refusal n p) = n ≡ 1
OpenNext (finished p) = Unit

-- f of what may change may change, and f and g agree at v
kept_through : {A B : Type 0} (C : A → Type 0) (D : B → Type 0) (f g : A → B) → ((x : A) → C x → D (f x)) → (v w : A) → Kept C v w → Kept D (f v) (g v) → Kept D (f v) (g w)
kept_through C D f g cd v w k h n = ap g (k (λ c. n (cd v c))) ∙ h n

module _ (s t : List ℕ) (z : ReaderState) (h : Held s z) where
  stop_kept : (x : Stop) → Kept OpenNext (stopped s x) (stopped (s ++ t) x)
  stop_kept (Bad p) n = refl
  stop_kept (Long p) n = refl
  stop_kept Cut n = absurd (n refl)

  text_kept : (at : ℕ) (r : Read) → Kept OpenNext (text_read s z at r) (text_read (s ++ t) z at r)
  text_kept at (Ok j) n = refl
  text_kept at (Err x) n = stop_kept x n

  end_kept : (at : ℕ) (o : Open) (os : List Open) → OpenHeld s o → (r : Ended) → EndedInside s (at + 2) r → Kept OpenNext (end_read s at (o ∷ os) r) (end_read (s ++ t) at (o ∷ os) r)
  end_kept at o os k (Err x) i n = stop_kept x n
  end_kept at o os k (Ok e) i n =
      let m = i.name in
      rw (bytes_more s t (whole_span e.name) (omega arith), bytes_more s t o.name k.inside)

  start_kept : (at : ℕ) (r : TagRead) → TagReadInside s (at + 1) r → (a : Tagged) → TaggedInside s (at + 1) r.attrs a → Kept OpenNext (start_read s at z.opened r a) (start_read (s ++ t) at z.opened r a)
  start_kept at r i (Err x) k n = stop_kept x n
  start_kept at r i (Ok e) k n =
      ap (start_meant at z.opened e) (meaning_more s t (bindings_of z.opened) (bindings_in_lem s z.opened h.opened) (at + 1) e.name k.name r.attrs i.each)

  ended_kept : (at : ℕ) (os : List Open) → All (OpenHeld s) os → Kept OpenNext (end_read s at os (end_tag_at s (at + 2))) (end_read (s ++ t) at os (end_tag_at (s ++ t) (at + 2)))
  ended_kept at [] k = λ n. refl
  ended_kept at (o ∷ os) k =
      kept_through (λ (r : Ended). r ≡ Err Cut) OpenNext (end_read s at (o ∷ os)) (end_read (s ++ t) at (o ∷ os))
      (λ r e. subst (λ (x : Ended). OpenNext (end_read s at (o ∷ os) x)) (sym e) refl)
      (end_tag_at s (at + 2))
      (end_tag_at (s ++ t) (at + 2))
      (end_tag_stable s t (at + 2))
      (end_kept at o os k.0 (end_tag_at s (at + 2)) (end_tag_inside s (at + 2)))

  begun_kept : (b : BeginRead) → Kept OpenNext (read_at s z b) (read_at (s ++ t) z b)
  begun_kept (Err x) = stop_kept x
  begun_kept (Ok begin.Finished) = λ n. absurd (n tt)
  begun_kept (Ok (begin.Text at)) =
      kept_through (λ (r : Read). r ≡ Err Cut) OpenNext (text_read s z at) (text_read (s ++ t) z at)
      (λ r e. subst (λ (x : Read). OpenNext (text_read s z at x)) (sym e) refl)
      (text_end s at)
      (text_end (s ++ t) at)
      (value_stable s t at 0x3C)
      (text_kept at (text_end s at))
  begun_kept (Ok (begin.End at)) = ended_kept at z.opened h.opened
  begun_kept (Ok (begin.Start at)) =
      kept_through CutTag OpenNext (λ (r : TagRead). start_read s at z.opened r r.answer) (λ (r : TagRead). start_read (s ++ t) at z.opened r r.answer)
      (λ r e. subst (λ (x : Tagged). OpenNext (start_read s at z.opened r x)) (sym e) refl)
      (tag_at s (at + 1))
      (tag_at (s ++ t) (at + 1))
      (tag_stable s t (at + 1))
      (start_kept at (tag_at s (at + 1)) (tag_inside s (at + 1)) (tag_at s (at + 1)).answer (tag_inside s (at + 1)).answer)

  from_kept : (inside : Bool) → Kept OpenNext (read_at s z (begin_at s z.place inside z.closed)) (read_at (s ++ t) z (begin_at (s ++ t) z.place inside z.closed))
  from_kept inside =
      kept_through CutBegin OpenNext (read_at s z) (read_at (s ++ t) z)
      (λ b. ⊎_elim (λ e. subst (λ (x : BeginRead). OpenNext (read_at s z x)) (sym e) refl) (λ e. subst (λ (x : BeginRead). OpenNext (read_at s z x)) (sym e) tt))
      (begin_at s z.place inside z.closed)
      (begin_at (s ++ t) z.place inside z.closed)
      (begin_stable s t z.place inside z.closed)
      (begun_kept (begin_at s z.place inside z.closed))

  pub next_kept : Kept OpenNext (next s z) (next (s ++ t) z)
  unfolding next
  next_kept = by z.awaited z.opened h.opened
    where
      by : (a : Bool) (os : List Open) → All (OpenHeld s) os → Kept OpenNext (next_by s z a os) (next_by (s ++ t) z a os)
      by true (o ∷ os) k = λ n. ap (λ (w : Span). event (end w (o.name.at - 1)) (left z.place os)) (part_more s t o.name k.0.inside)
      by true [] k = from_kept false
      by false os k = from_kept (not (is_nil os))

  pub next_stable : (e : Event) (z' : ReaderState) → next s z ≡ event e z' → next (s ++ t) z ≡ event e z'
  next_stable e z' q = next_kept (λ c. subst OpenNext q c) ∙ q

  -- 2, 3, 4, 5 and 6
  pub refusal_stable : (n p : ℕ) → next s z ≡ refusal n p → (n ≡ 1 → ⊥) → next (s ++ t) z ≡ refusal n p
  refusal_stable n p q k = next_kept (λ c. k (subst OpenNext q c)) ∙ q

-- ---- the bytes before the place of a refusal
-- where an answer's place is, in a scene of so many bytes
abbrev pub Placed : ℕ → Next → Type 0
Placed size (event e z) = Unit
Placed size (refusal n p) = (1 ≤ n) × (n ≡ 1 → p ≡ size) × ((n ≡ 1 → ⊥) → p < size)
Placed size (finished p) = p ≡ size

pub next_placed : (s : List ℕ) (z : ReaderState) → Held s z → Placed (length s) (next s z)
next_placed s z h = by (next s z) (next_held s z h)
  where
    by : (x : Next) → NextHeld s z x → Placed (length s) x
    by (event e z') k = tt
    by (refusal n p) k = (k.some, k.cut, λ m. (k.inside m).1)
    by (finished p) k = k.0

-- f s: an answer on s
module _ (f : List ℕ → Next) (s : List ℕ) (n p : ℕ) (q : f s ≡ refusal n p) where
  short_length : Placed (length s) (f s) → length (take p s) ≡ p
  short_length h =
      let r : Placed (length s) (refusal n p) = subst (Placed (length s)) q h in
      length-take-le p s (⊎_elim (λ le. omega (arith, r.1 (omega arith))) (λ lt. omega (arith, r.2 (λ e. omega arith))) (le_or_lt n 1))

  pub short : Placed (length s) (f s) → Placed (length (take p s)) (f (take p s)) → Kept OpenNext (f (take p s)) (f (take p s ++ drop p s)) → (f (take p s) ≡ refusal 1 p) ⊎ (f (take p s) ≡ finished p)
  short h k kept = ends (f (take p s)) k (λ o. sym (kept o) ∙ ap f (take-append-drop p s) ∙ q)
    where
      ends : (x : Next) → Placed (length (take p s)) x → ((OpenNext x → ⊥) → x ≡ refusal n p) → (x ≡ refusal 1 p) ⊎ (x ≡ finished p)
      ends (event e z) i same =
          let a : event e z ≡ refusal n p = same (λ c. c) in
          let b : ◌≡◌ {A = ℕ} 0 1 = cc in
          absurd (omega arith)
      ends (refusal m j) i same =
          ⊎_elim
          (λ le.
          let a : m ≡ 1 = omega arith in
          let b : j ≡ p = i.1 a ∙ short_length h in
          inl (cc))
          (λ lt.
          let a : refusal m j ≡ refusal n p = same (λ e. omega arith) in
          let b : j ≡ p = cc in
          absurd (omega (arith, short_length h, i.2 (λ e. omega arith))))
          (le_or_lt m 1)
      ends (finished j) i same = inr (ap finished (i ∙ short_length h))

pub next_short : (s : List ℕ) (z : ReaderState) (n p : ℕ) → next s z ≡ refusal n p → Held (take p s) z → (next (take p s) z ≡ refusal 1 p) ⊎ ((next (take p s) z ≡ finished p) × (z.closed ≡ true))
next_short s z n p q h =
    ⊎_elim inl (λ e. inr (e, (subst (NextHeld (take p s) z) e (next_held (take p s) z h)).1))
    (short (λ (l : List ℕ). next l z) s n p q (next_placed s z whole) (next_placed (take p s) z h) (next_kept (take p s) (drop p s) z h))
  where
    whole : Held s z
    whole = subst (λ (l : List ℕ). Held l z) (take-append-drop p s) (held_more (take p s) (drop p s) z h)
