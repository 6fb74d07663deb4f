-- More bytes behind a scene: the reader says the same, or no 2 and no 3 that is settled before the scene's end.
--     LateNext, next_ext                     the same answer, or a late one
--     MeaningNumber, meaning_number          what a tag means is no 2 and no 3
--     next_stays                             a 2 or a 3 stays
--     next_until                             a part of the scene that goes beyond the refused byte: the same, or 1
use Rattle.std.specs.Prelude.{Ok, Err}
use Prim.Native.Nat.{ℕ, ◌+◌, ◌-◌, ◌≤◌, ◌<◌}
use mathlib.Core.Path.{◌≡◌, refl, sym, ap, subst, ◌∙◌}
use mathlib.Core.List.{List, [], ◌∷◌, ◌++◌}
use mathlib.Core.Bool.{Bool, true, false, not, ◌&&◌, ◌||◌}
use mathlib.Core.Option.{Option, none, some}
use mathlib.Core.Logic.{◌⊎◌, inl, inr, ⊎_elim}
use native.Mathlib.Omega.{arith}
use lib.ListN.{length, get_or, length-append}
use lib.Dec.{eqb}
use Rattle.laws.specs.Reading.{le_or_lt}
use Rattle.laws.specs.Lists.{same_list, any, any_pair}
use Rattle.laws.proofs.Flags.{differ}
use Rattle.laws.proofs.Holds.{holds_cond}
use Rattle.laws.proofs.Kept.{Kept}
use Rattle.lexer.specs.Values.{text_end}
use Rattle.lexer.specs.Misc.{is_xml}
use Rattle.lexer.specs.Tags.{TagRead, tag_at, end_tag_at}
use Rattle.lexer.specs.Begins.{begin_at}
use Rattle.lexer.specs.declared.Stop.{Stop}
use Rattle.lexer.specs.declared.Stop.TheVariants.{Bad, Long, Cut}
use Rattle.lexer.specs.Reads.{Read, Tagged, Ended, BeginRead}
use Rattle.lexer.specs.declared.Name.{Name}
use Rattle.lexer.specs.declared.Attr.{Attr}
use Rattle.lexer.specs.declared.Tag.{Tag}
use Rattle.lexer.specs.declared.EndTag.{EndTag}
use Rattle.lexer.specs.declared.Begin.TheVariants as begin
use Rattle.lexer.proofs.ValueLaws.{value_stable, closes_behind}
use Rattle.lexer.proofs.Stable.{CutTag, tag_stable, end_tag_stable}
use Rattle.lexer.proofs.BeginLaws.{BeginInside, begin_inside, CutBegin, begin_stable}
use Rattle.reader.specs.Spans.{bytes_of, whole_span}
use Rattle.reader.specs.Namespaces.{declarations_of, refused_binding, Namespace, of_element, ReadAttribute, resolved, same_name, same_expanded, Meaning, refused, meant, meant_by, meaning_of}
use Rattle.reader.specs.Events as scene
use Rattle.reader.specs.Held.{Held}
use Rattle.reader.specs.declared.Binding.{Binding}
use Rattle.reader.proofs.Held.{NextHeld, next_held}
use Rattle.reader.proofs.NextStable.{Placed, next_placed, next_stable, refusal_stable}
use Rattle.demands.specs.Answers.{reads_text, settled}
use Rattle.demands.proofs.Late.{Targets, Closings, closes_here, Ext, ext_bind, LateStop, LateRead, LateTagged, LateEnded, LateBegin, value_ext, value_late, tag_ext, tag_late, end_tag_ext, end_tag_late, begin_ext, finished_on}

-- ---- 2 and 3
-- need: how many bytes behind a refused one settle its refusal
abbrev pub LateNext : (ℕ → ℕ) → ℕ → scene.Next → Type 0
LateNext need n (scene.event e z) = Unit {0}
LateNext need n (scene.refusal m p) = (2 ≤ m) → (m ≤ 3) → n ≤ p + need p
LateNext need n (scene.finished p) = Unit {0}

-- what a tag means is no 2 and no 3
abbrev pub MeaningNumber : Meaning → Type 0
MeaningNumber (refused k) = 5 ≤ k
MeaningNumber (meant x as' own) = Unit {0}

meant_late : (need : ℕ → ℕ) (n at : ℕ) (os : List scene.Open) (tag : Tag) (m : Meaning) → MeaningNumber m → LateNext need n (scene.start_meant at os tag m)
meant_late need n at os tag (refused k) h = λ lo hi. absurd (omega arith)
meant_late need n at os tag (meant x as' own) h = tt

pub meaning_number : (s : List ℕ) (bs : List Binding) (n : Name) (attrs : List Attr) → MeaningNumber (meaning_of s bs n attrs)
unfolding meaning_of
meaning_number s bs n attrs =
    holds_cond MeaningNumber (any (refused_binding s) (declarations_of s attrs)) (λ e. omega arith)
    (λ e. by (of_element s (bs ++ declarations_of s attrs) n) (resolved s (bs ++ declarations_of s attrs) attrs))
  where
    by : (o : Option Namespace) (r : Option (List ReadAttribute)) → MeaningNumber (meant_by s attrs (declarations_of s attrs) o r)
    by none r = omega arith
    by (some m) none = omega arith
    by (some m) (some as') = holds_cond MeaningNumber (any_pair (same_name s) attrs || any_pair (same_expanded s) as') (λ e. omega arith) (λ e. tt)

-- ---- what settles the two refusals that their byte does not settle
settled_targets : (S : List ℕ) (z : scene.ReaderState) → Targets (settled S z) S
unfolding settled
settled_targets S z at less question x =
    let a : at + 2 - 2 ≡ at = omega arith in
    let b : at + 2 - 1 ≡ at + 1 = omega arith in
    rw (a, b, less, question, x) (omega arith)

settled_closings : (S : List ℕ) (z : scene.ReaderState) → reads_text S z ≡ true → (at : ℕ) → Closings (settled S z) S at 0x3C
unfolding settled
settled_closings S z text at i e =
    let le : at + 2 ≤ i = closes_behind S at 0x3C (get_or S i 0) i e in
    let k : i - 2 + 2 ≡ i = omega arith in
    holds_cond (λ (n : ℕ). 2 ≤ n) (eqb (get_or S (i - 2 - 2) 0) 0x3C && eqb (get_or S (i - 2 - 1) 0) 0x3F && is_xml S (i - 2) (i - 2 + 3))
    (λ x. omega arith)
    (λ x. rw (text, k, closes_here S at 0x3C (get_or S i 0) i e) (omega arith))

module _ (s t : List ℕ) (z : scene.ReaderState) where
  abbrev need : ℕ → ℕ
  need = settled (s ++ t) z

  targets : Targets need (s ++ t)
  targets = settled_targets (s ++ t) z

  N : scene.Next → Type 0
  N = LateNext need (length s)

  stopped_late : (x : Stop) → LateStop need (length s) x → N (scene.stopped (s ++ t) x)
  unfolding N
  stopped_late (Bad j) h lo hi = h
  stopped_late (Long j) h lo hi = omega arith
  stopped_late Cut h lo hi = absurd (omega arith)

  stopped_ext : (x : Stop) → Ext N (scene.stopped s x) (scene.stopped (s ++ t) x)
  unfolding N
  stopped_ext (Bad j) = inl refl
  stopped_ext (Long j) = inl refl
  stopped_ext Cut = inr (λ lo hi. absurd (omega arith))

  text_late : (at : ℕ) (r : Read) → LateRead need (length s) r → N (scene.text_read (s ++ t) z at r)
  unfolding N
  text_late at (Ok j) h = tt
  text_late at (Err x) h = stopped_late x h

  text_ext : (at : ℕ) → Closings need (s ++ t) at 0x3C → Ext N (scene.text_read s z at (text_end s at)) (scene.text_read (s ++ t) z at (text_end (s ++ t) at))
  unfolding N
  text_ext at closings =
      ext_bind (LateRead need (length s)) N (scene.text_read s z at) (scene.text_read (s ++ t) z at) same (text_late at) (text_end s at) (text_end (s ++ t) at) (value_ext need s t targets at 0x3C closings)
    where
      same : (r : Read) → Ext N (scene.text_read s z at r) (scene.text_read (s ++ t) z at r)
      same (Ok j) = inr tt
      same (Err x) = stopped_ext x

  -- 4 is no 2 and no 3
  got_late : (at : ℕ) (o : scene.Open) (os : List scene.Open) (e : EndTag) → N (scene.end_read (s ++ t) at (o ∷ os) (Ok e))
  unfolding N
  got_late at o os e =
      holds_cond N (same_list (bytes_of (s ++ t) (whole_span e.name)) (bytes_of (s ++ t) o.name)) (λ q. tt) (λ q lo hi. absurd (omega arith))

  ended_late : (at : ℕ) (o : scene.Open) (os : List scene.Open) (r : Ended) → LateEnded need (length s) r → N (scene.end_read (s ++ t) at (o ∷ os) r)
  ended_late at o os (Err x) h = stopped_late x h
  ended_late at o os (Ok e) h = got_late at o os e

  end_ext : (at : ℕ) (os : List scene.Open) → Ext N (scene.end_read s at os (end_tag_at s (at + 2))) (scene.end_read (s ++ t) at os (end_tag_at (s ++ t) (at + 2)))
  end_ext at [] = inl refl
  end_ext at (o ∷ os) =
      ext_bind (LateEnded need (length s)) N (scene.end_read s at (o ∷ os)) (scene.end_read (s ++ t) at (o ∷ os)) same (ended_late at o os) (end_tag_at s (at + 2)) (end_tag_at (s ++ t) (at + 2)) (end_tag_ext need s t targets (at + 2))
    where
      same : (r : Ended) → Ext N (scene.end_read s at (o ∷ os) r) (scene.end_read (s ++ t) at (o ∷ os) r)
      same (Err x) = stopped_ext x
      same (Ok e) = inr (got_late at o os e)

  end_late : (at : ℕ) → length s ≤ at + 1 → (os : List scene.Open) → N (scene.end_read (s ++ t) at os (end_tag_at (s ++ t) (at + 2)))
  unfolding N
  end_late at le [] = λ lo hi. omega arith
  end_late at le (o ∷ os) = ended_late at o os (end_tag_at (s ++ t) (at + 2)) (end_tag_late need s t targets (at + 2) (omega arith))

  tag_got_late : (at : ℕ) (os : List scene.Open) (r : TagRead) (e : Tag) → N (scene.start_read (s ++ t) at os r (Ok e))
  unfolding N
  tag_got_late at os r e = meant_late need (length s) at os e (meaning_of (s ++ t) (scene.bindings_of os) e.name r.attrs) (meaning_number (s ++ t) (scene.bindings_of os) e.name r.attrs)

  tagged_late : (at : ℕ) (os : List scene.Open) (r : TagRead) (a : Tagged) → LateTagged need (length s) a → N (scene.start_read (s ++ t) at os r a)
  tagged_late at os r (Err x) h = stopped_late x h
  tagged_late at os r (Ok e) h = tag_got_late at os r e

  start_ext : (at : ℕ) (os : List scene.Open) → Ext N (scene.start_read s at os (tag_at s (at + 1)) (tag_at s (at + 1)).answer) (scene.start_read (s ++ t) at os (tag_at (s ++ t) (at + 1)) (tag_at (s ++ t) (at + 1)).answer)
  start_ext at os =
      ext_bind (λ (r : TagRead). LateTagged need (length s) r.answer) N (λ (r : TagRead). scene.start_read s at os r r.answer) (λ (r : TagRead). scene.start_read (s ++ t) at os r r.answer)
      (λ r. same r r.answer)
      (λ r h. tagged_late at os r r.answer h)
      (tag_at s (at + 1))
      (tag_at (s ++ t) (at + 1))
      (tag_ext need s t targets (at + 1))
    where
      same : (r : TagRead) (a : Tagged) → Ext N (scene.start_read s at os r a) (scene.start_read (s ++ t) at os r a)
      same r (Err x) = stopped_ext x
      same r (Ok e) = inr (tag_got_late at os r e)

  begun_ext : (inside : Bool) → inside ≡ not (scene.is_nil z.opened) → Ext N (scene.read_at s z (begin_at s z.place inside z.closed)) (scene.read_at (s ++ t) z (begin_at (s ++ t) z.place inside z.closed))
  unfolding N
  begun_ext inside around = by (begin_at (s ++ t) z.place inside z.closed) refl (begin_ext need s t targets z.place inside z.closed)
    where
      closings : (at : ℕ) → begin_at (s ++ t) z.place inside z.closed ≡ Ok (begin.Text at) → Closings need (s ++ t) at 0x3C
      closings at q = settled_closings (s ++ t) z (rw (← around, q)) at

      same : (b : BeginRead) → begin_at (s ++ t) z.place inside z.closed ≡ b → Ext N (scene.read_at s z b) (scene.read_at (s ++ t) z b)
      same (Err x) q = stopped_ext x
      same (Ok begin.Finished) q = inr tt
      same (Ok (begin.Text at)) q = text_ext at (closings at q)
      same (Ok (begin.End at)) q = end_ext at z.opened
      same (Ok (begin.Start at)) q = start_ext at z.opened

      late : (b : BeginRead) → begin_at (s ++ t) z.place inside z.closed ≡ b → LateBegin need (length s) b → N (scene.read_at (s ++ t) z b)
      late (Err x) q h = stopped_late x h
      late (Ok begin.Finished) q h = tt
      late (Ok (begin.Text at)) q h = text_late at (text_end (s ++ t) at) (value_late need s t targets at 0x3C (closings at q) h)
      late (Ok (begin.End at)) q h = end_late at h z.opened
      late (Ok (begin.Start at)) q h = tagged_late at z.opened (tag_at (s ++ t) (at + 1)) (tag_at (s ++ t) (at + 1)).answer (tag_late need s t targets (at + 1) h)

      by : (b : BeginRead) → begin_at (s ++ t) z.place inside z.closed ≡ b → Ext (LateBegin need (length s)) (begin_at s z.place inside z.closed) b → Ext N (scene.read_at s z (begin_at s z.place inside z.closed)) (scene.read_at (s ++ t) z b)
      by b q (inl e) = subst (λ (a : BeginRead). Ext N (scene.read_at s z a) (scene.read_at (s ++ t) z b)) e (same b q)
      by b q (inr l) = inr (late b q l)

  -- with more bytes the reader says the same, or no 2 and no 3 that is settled before the scene's end
  pub next_ext : Ext (LateNext (settled (s ++ t) z) (length s)) (scene.next s z) (scene.next (s ++ t) z)
  unfolding scene.next N
  next_ext = by z.awaited z.opened refl
    where
      by : (a : Bool) (os : List scene.Open) → os ≡ z.opened → Ext N (scene.next_by s z a os) (scene.next_by (s ++ t) z a os)
      by true (o ∷ os) q = inr tt
      by true [] q = begun_ext false (ap (λ (l : List scene.Open). not (scene.is_nil l)) q)
      by false os q = begun_ext (not (scene.is_nil os)) (ap (λ (l : List scene.Open). not (scene.is_nil l)) q)

  -- ---- and a 2 or a 3 stays
  -- the answers that may change
  Other : scene.Next → Type 0
  Other (scene.event e z') = Unit {0}
  Other (scene.refusal m p) = (2 ≤ m) → (m ≤ 3) → ⊥
  Other (scene.finished p) = Unit {0}

  through : {A : Type 0} (C : A → Type 0) (f g : A → scene.Next) → ((x : A) → C x → Other (f x)) → ((x : A) → Kept Other (f x) (g x)) → (v w : A) → Kept C v w → Kept Other (f v) (g w)
  through C f g open' same v w k n = ap g (k (λ c. n (open' v c))) ∙ same v n

  stopped_stays : (x : Stop) → Kept Other (scene.stopped s x) (scene.stopped (s ++ t) x)
  unfolding Other
  stopped_stays (Bad j) n = refl
  stopped_stays (Long j) n = refl
  stopped_stays Cut n = absurd (n (λ lo hi. omega arith))

  text_stays : (at : ℕ) → Kept Other (scene.text_read s z at (text_end s at)) (scene.text_read (s ++ t) z at (text_end (s ++ t) at))
  unfolding Other
  text_stays at =
      through (λ (r : Read). r ≡ Err Cut) (scene.text_read s z at) (scene.text_read (s ++ t) z at) (λ r e. rw e (λ lo hi. omega arith)) same (text_end s at) (text_end (s ++ t) at) (value_stable s t at 0x3C)
    where
      same : (r : Read) → Kept Other (scene.text_read s z at r) (scene.text_read (s ++ t) z at r)
      same (Ok j) n = absurd (n tt)
      same (Err x) n = stopped_stays x n

  end_stays : (at : ℕ) (os : List scene.Open) → Kept Other (scene.end_read s at os (end_tag_at s (at + 2))) (scene.end_read (s ++ t) at os (end_tag_at (s ++ t) (at + 2)))
  unfolding Other
  end_stays at [] = λ n. refl
  end_stays at (o ∷ os) =
      through (λ (r : Ended). r ≡ Err Cut) (scene.end_read s at (o ∷ os)) (scene.end_read (s ++ t) at (o ∷ os)) (λ r e. rw e (λ lo hi. omega arith)) same (end_tag_at s (at + 2)) (end_tag_at (s ++ t) (at + 2)) (end_tag_stable s t (at + 2))
    where
      same : (r : Ended) → Kept Other (scene.end_read s at (o ∷ os) r) (scene.end_read (s ++ t) at (o ∷ os) r)
      same (Err x) = stopped_stays x
      same (Ok e) = λ n. absurd (n (holds_cond Other (same_list (bytes_of s (whole_span e.name)) (bytes_of s o.name)) (λ q. tt) (λ q lo hi. omega arith)))

  start_stays : (at : ℕ) (os : List scene.Open) → Kept Other (scene.start_read s at os (tag_at s (at + 1)) (tag_at s (at + 1)).answer) (scene.start_read (s ++ t) at os (tag_at (s ++ t) (at + 1)) (tag_at (s ++ t) (at + 1)).answer)
  unfolding Other
  start_stays at os =
      through CutTag (λ (r : TagRead). scene.start_read s at os r r.answer) (λ (r : TagRead). scene.start_read (s ++ t) at os r r.answer)
      (λ r e. subst (λ (a : Tagged). Other (scene.start_read s at os r a)) (sym e) (λ lo hi. omega arith))
      (λ r. same r r.answer)
      (tag_at s (at + 1))
      (tag_at (s ++ t) (at + 1))
      (tag_stable s t (at + 1))
    where
      other : (e : Tag) (m : Meaning) → MeaningNumber m → Other (scene.start_meant at os e m)
      other e (refused k) h = λ lo hi. omega arith
      other e (meant x as' own) h = tt

      same : (r : TagRead) (a : Tagged) → Kept Other (scene.start_read s at os r a) (scene.start_read (s ++ t) at os r a)
      same r (Err x) = stopped_stays x
      same r (Ok e) = λ n. absurd (n (other e (meaning_of s (scene.bindings_of os) e.name r.attrs) (meaning_number s (scene.bindings_of os) e.name r.attrs)))

  begun_stays : (inside : Bool) → Kept Other (scene.read_at s z (begin_at s z.place inside z.closed)) (scene.read_at (s ++ t) z (begin_at (s ++ t) z.place inside z.closed))
  unfolding Other
  begun_stays inside =
      through CutBegin (scene.read_at s z) (scene.read_at (s ++ t) z) (λ b. ⊎_elim (λ e. rw e (λ lo hi. omega arith)) (λ e. rw e tt)) same (begin_at s z.place inside z.closed) (begin_at (s ++ t) z.place inside z.closed) (begin_stable s t z.place inside z.closed)
    where
      same : (b : BeginRead) → Kept Other (scene.read_at s z b) (scene.read_at (s ++ t) z b)
      same (Err x) = stopped_stays x
      same (Ok begin.Finished) = λ n. absurd (n tt)
      same (Ok (begin.Text at)) = text_stays at
      same (Ok (begin.End at)) = end_stays at z.opened
      same (Ok (begin.Start at)) = start_stays at z.opened

  pub next_stays : (n p : ℕ) → 2 ≤ n → n ≤ 3 → scene.next s z ≡ scene.refusal n p → scene.next (s ++ t) z ≡ scene.refusal n p
  unfolding scene.next Other
  next_stays n p lo hi q = by z.awaited z.opened (λ c. subst Other q c lo hi) ∙ q
    where
      by : (a : Bool) (os : List scene.Open) → Kept Other (scene.next_by s z a os) (scene.next_by (s ++ t) z a os)
      by true (o ∷ os) n = absurd (n tt)
      by true [] n = begun_stays false n
      by false os n = begun_stays (not (scene.is_nil os)) n

-- ---- behind a finished scene
-- what begins behind it and is refused is refused there
behind_finished : (s t : List ℕ) (z : scene.ReaderState) (n p : ℕ) (b : BeginRead) → BeginInside (s ++ t) (length s) false true b → scene.read_at (s ++ t) z b ≡ scene.refusal n p → length s ≤ p
behind_finished s t z n p (Err (Bad j)) i e = let y : j ≡ p = cc in omega arith
behind_finished s t z n p (Err (Long j)) i e = let y : j ≡ p = cc in omega arith
behind_finished s t z n p (Err Cut) i e = let y : length (s ++ t) ≡ p = cc in omega (arith, length-append s t)
behind_finished s t z n p (Ok begin.Finished) i e = let y : ◌≡◌ {A = ℕ} 0 1 = cc in absurd (omega arith)
behind_finished s t z n p (Ok (begin.Text at)) i e = absurd (differ (sym i.3))
behind_finished s t z n p (Ok (begin.End at)) i e = absurd (differ (sym i.4))
behind_finished s t z n p (Ok (begin.Start at)) i e = absurd (differ (sym i.4))

-- behind the root nothing begins but the end
finished_only : (s : List ℕ) (z : scene.ReaderState) (j : ℕ) (b : BeginRead) → BeginInside s z.place false true b → scene.read_at s z b ≡ scene.finished j → b ≡ (Ok begin.Finished)
finished_only s z j (Err x) i e = let y : ◌≡◌ {A = ℕ} 0 1 = cc in absurd (omega arith)
finished_only s z j (Ok begin.Finished) i e = refl
finished_only s z j (Ok (begin.Text at)) i e = absurd (differ (sym i.3))
finished_only s z j (Ok (begin.End at)) i e = absurd (differ (sym i.4))
finished_only s z j (Ok (begin.Start at)) i e = absurd (differ (sym i.4))

module _ (s t : List ℕ) (z : scene.ReaderState) (h : Held s z) where
  begun_late : (j n p : ℕ) (closed : Bool) → closed ≡ true → scene.read_at s z (begin_at s z.place false closed) ≡ scene.finished j → scene.read_at (s ++ t) z (begin_at (s ++ t) z.place false closed) ≡ scene.refusal n p → length s ≤ p
  begun_late j n p true c e q =
      let fin : begin_at s z.place false true ≡ (Ok begin.Finished) = finished_only s z j (begin_at s z.place false true) (begin_inside s z.place false true) e in
      behind_finished s t z n p (begin_at (s ++ t) (length s) false true) (begin_inside (s ++ t) (length s) false true) (ap (scene.read_at (s ++ t) z) (sym (finished_on s z.place fin h.place t)) ∙ q)
  begun_late j n p false c e q = absurd (differ (sym c))

  finished_late : (j n p : ℕ) → scene.next s z ≡ scene.finished j → scene.next (s ++ t) z ≡ scene.refusal n p → length s ≤ p
  unfolding scene.next
  finished_late j n p e q = by z.awaited z.opened (h.closed c) h.awaited e q
    where
      c : z.closed ≡ true
      c = (subst (NextHeld s z) e (next_held s z h)).1

      by : (a : Bool) (os : List scene.Open) → os ≡ [] → (a ≡ true → os ≡ [] → ⊥) → scene.next_by s z a os ≡ scene.finished j → scene.next_by (s ++ t) z a os ≡ scene.refusal n p → length s ≤ p
      by true os m w e q = absurd (w refl m)
      by false (o ∷ os) m w e q = let y : ◌≡◌ {A = ℕ} 0 1 = cc in absurd (omega arith)
      by false [] m w e q = begun_late j n p z.closed c e q

  -- where more bytes refuse at p, the bytes up to k behind it say the same, or 1
  pub next_until : (n p : ℕ) → scene.next (s ++ t) z ≡ scene.refusal n p → (k : ℕ) → length s ≡ k → p < k → (scene.next s z ≡ scene.refusal n p) ⊎ (scene.next s z ≡ scene.refusal 1 k)
  next_until n p q k size lt = ends (scene.next s z) refl (next_placed s z h)
    where
      ends : (x : scene.Next) → scene.next s z ≡ x → Placed (length s) x → (scene.next s z ≡ scene.refusal n p) ⊎ (scene.next s z ≡ scene.refusal 1 k)
      ends (scene.event e z') f i = let y : scene.event e z' ≡ scene.refusal n p = sym (next_stable s t z h e z' f) ∙ q in let w : ◌≡◌ {A = ℕ} 0 1 = cc in absurd (omega arith)
      ends (scene.refusal m j) f i =
          ⊎_elim
          (λ le.
          let one : m ≡ 1 = omega arith in
          let there : j ≡ k = i.1 one ∙ size in
          inr (f ∙ cc))
          (λ gt. inl (f ∙ sym (refusal_stable s t z h m j f (λ e. omega arith)) ∙ q))
          (le_or_lt m 1)
      ends (scene.finished j) f i = absurd (omega (arith, finished_late j n p f q))
