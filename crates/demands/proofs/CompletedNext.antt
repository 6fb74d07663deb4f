-- A scene that ends too soon can go on: bytes behind it with which the reader reads an event to its end, or finishes.
--     Whole, next_completed                          or the scene is overfull
use Rattle.std.specs.Prelude.{Ok, Err}
use Prim.Native.Nat.{ℕ, ◌+◌, ◌≤◌}
use mathlib.Core.Path.{◌≡◌, refl, subst, ◌∙◌}
use mathlib.Core.List.{List, [], ◌∷◌, ◌++◌}
use mathlib.Core.Bool.{Bool, true, false, not}
use mathlib.Core.Logic.{◌⊎◌, inl, ⊎_elim}
use native.Mathlib.Omega.{arith}
use lib.ListN.{length, length-append}
use Rattle.laws.specs.Lists.{same_list}
use Rattle.laws.proofs.Holds.{holds_cond}
use Rattle.lexer.specs.Values.{text_end}
use Rattle.lexer.specs.Tags.{TagRead, tag_at, end_tag_at}
use Rattle.lexer.specs.Begins.{begin_at}
use Rattle.lexer.specs.declared.Stop.TheVariants.{Bad, Long, Cut}
use Rattle.lexer.specs.Reads.{Read, Tagged, Ended, BeginRead}
use Rattle.lexer.specs.declared.Begin.TheVariants as begin
use Rattle.lexer.proofs.BeginLaws.{BeginInside, begin_inside, CutBegin, begin_stable}
use Rattle.reader.specs.Spans.{bytes_of, whole_span}
use Rattle.reader.specs.Namespaces.{Meaning, refused, meant, meaning_of}
use Rattle.reader.specs.Events as scene
use Rattle.demands.specs.Answers.{Overfull}
use Rattle.demands.proofs.LateNext.{MeaningNumber, meaning_number}
use Rattle.demands.proofs.CompletedParts.{or_full, value_completed}
use Rattle.demands.proofs.Completed.{IsTag, Done, tag_completed, IsEnd, end_tag_completed, begin_completed}

-- an event, a number that is said of a whole tag, or the end
abbrev pub Whole : scene.Next → Type 0
Whole (scene.event e z) = Unit {0}
Whole (scene.refusal n p) = 4 ≤ n
Whole (scene.finished p) = Unit {0}

module _ (z : scene.ReaderState) where
  tagged_whole : (s : List ℕ) (at : ℕ) (os : List scene.Open) (r : TagRead) (a : Tagged) → IsTag a → Whole (scene.start_read s at os r a)
  tagged_whole s at os r (Err x) h = absurd h
  tagged_whole s at os r (Ok t) h = by (meaning_of s (scene.bindings_of os) t.name r.attrs) (meaning_number s (scene.bindings_of os) t.name r.attrs)
    where
      by : (m : Meaning) → MeaningNumber m → Whole (scene.start_meant at os t m)
      by (refused k) h = omega arith
      by (meant x as' own) h = tt

  ended_whole : (s : List ℕ) (at : ℕ) (o : scene.Open) (os : List scene.Open) (r : Ended) → IsEnd r → Whole (scene.end_read s at (o ∷ os) r)
  ended_whole s at o os (Err x) h = absurd h
  ended_whole s at o os (Ok t) h = holds_cond Whole (same_list (bytes_of s (whole_span t.name)) (bytes_of s o.name)) (λ q. tt) (λ q. omega arith)

  -- what is whole is no 1
  not_cut : (x : scene.Next) → Whole x → (p : ℕ) → x ≡ scene.refusal 1 p → ⊥
  not_cut x h p e = let k : 4 ≤ 1 = subst Whole e h in omega arith

module _ (s : List ℕ) (z : scene.ReaderState) (h : z.place ≤ length s) (p : ℕ) where
  text_completed : (at : ℕ) → at ≤ length s → scene.text_read s z at (text_end s at) ≡ scene.refusal 1 p → Done s (λ (S : List ℕ). Whole (scene.text_read S z at (text_end S at)))
  text_completed at le e = by (text_end s at) refl e
    where
      by : (r : Read) → text_end s at ≡ r → scene.text_read s z at r ≡ scene.refusal 1 p → Done s (λ (S : List ℕ). Whole (scene.text_read S z at (text_end S at)))
      by (Ok j) f e = let y : ◌≡◌ {A = ℕ} 0 1 = cc in absurd (omega arith)
      by (Err (Bad j)) f e = let y : ◌≡◌ {A = ℕ} 2 1 = cc in absurd (omega arith)
      by (Err (Long j)) f e = let y : ◌≡◌ {A = ℕ} 3 1 = cc in absurd (omega arith)
      by (Err Cut) f e =
          let v = value_completed s 0x3C at le f in
          record {
            more = v.more ++ (0x3C ∷ []);
            few = omega (arith, length-append v.more (0x3C ∷ []), v.few);
            done = rw (v.done []) tt;
          }

  end_completed : (at : ℕ) → at + 2 ≤ length s → (os : List scene.Open) → scene.end_read s at os (end_tag_at s (at + 2)) ≡ scene.refusal 1 p → Done s (λ (S : List ℕ). Whole (scene.end_read S at os (end_tag_at S (at + 2)))) ⊎ Overfull s (λ (S : List ℕ) (k : ℕ). scene.end_read S at os (end_tag_at S (at + 2)) ≡ scene.refusal 3 k)
  end_completed at le [] e = let y : ◌≡◌ {A = ℕ} 2 1 = cc in absurd (omega arith)
  end_completed at le (o ∷ os) e = by (end_tag_at s (at + 2)) refl e
    where
      by : (r : Ended) → end_tag_at s (at + 2) ≡ r → scene.end_read s at (o ∷ os) r ≡ scene.refusal 1 p → Done s (λ (S : List ℕ). Whole (scene.end_read S at (o ∷ os) (end_tag_at S (at + 2)))) ⊎ Overfull s (λ (S : List ℕ) (k : ℕ). scene.end_read S at (o ∷ os) (end_tag_at S (at + 2)) ≡ scene.refusal 3 k)
      by (Ok t) f e = absurd (not_cut z (scene.end_read s at (o ∷ os) (Ok t)) (ended_whole z s at o os (Ok t) tt) p e)
      by (Err (Bad j)) f e = let y : ◌≡◌ {A = ℕ} 2 1 = cc in absurd (omega arith)
      by (Err (Long j)) f e = let y : ◌≡◌ {A = ℕ} 3 1 = cc in absurd (omega arith)
      by (Err Cut) f e =
          or_full (λ d. record { more = d.more; few = d.few; done = ended_whole z (s ++ d.more) at o os (end_tag_at (s ++ d.more) (at + 2)) d.done }) (λ t k r. rw r) (end_tag_completed s (at + 2) le f)

  start_completed : (at : ℕ) → at + 1 ≤ length s → (os : List scene.Open) → scene.start_read s at os (tag_at s (at + 1)) (tag_at s (at + 1)).answer ≡ scene.refusal 1 p
      → Done s (λ (S : List ℕ). Whole (scene.start_read S at os (tag_at S (at + 1)) (tag_at S (at + 1)).answer)) ⊎ Overfull s (λ (S : List ℕ) (k : ℕ). scene.start_read S at os (tag_at S (at + 1)) (tag_at S (at + 1)).answer ≡ scene.refusal 3 k)
  start_completed at le os e = by (tag_at s (at + 1)).answer refl e
    where
      by : (a : Tagged) → (tag_at s (at + 1)).answer ≡ a → scene.start_read s at os (tag_at s (at + 1)) a ≡ scene.refusal 1 p → Done s (λ (S : List ℕ). Whole (scene.start_read S at os (tag_at S (at + 1)) (tag_at S (at + 1)).answer)) ⊎ Overfull s (λ (S : List ℕ) (k : ℕ). scene.start_read S at os (tag_at S (at + 1)) (tag_at S (at + 1)).answer ≡ scene.refusal 3 k)
      by (Ok t) f e = absurd (not_cut z (scene.start_read s at os (tag_at s (at + 1)) (Ok t)) (tagged_whole z s at os (tag_at s (at + 1)) (Ok t) tt) p e)
      by (Err (Bad j)) f e = let y : ◌≡◌ {A = ℕ} 2 1 = cc in absurd (omega arith)
      by (Err (Long j)) f e = let y : ◌≡◌ {A = ℕ} 3 1 = cc in absurd (omega arith)
      by (Err Cut) f e =
          or_full (λ d. record { more = d.more; few = d.few; done = tagged_whole z (s ++ d.more) at os (tag_at (s ++ d.more) (at + 1)) (tag_at (s ++ d.more) (at + 1)).answer d.done }) (λ t k r. rw r) (tag_completed s (at + 1) le f)

  begun_completed : (inside : Bool) → scene.read_at s z (begin_at s z.place inside z.closed) ≡ scene.refusal 1 p → Done s (λ (S : List ℕ). Whole (scene.read_at S z (begin_at S z.place inside z.closed))) ⊎ Overfull s (λ (S : List ℕ) (k : ℕ). scene.read_at S z (begin_at S z.place inside z.closed) ≡ scene.refusal 3 k)
  begun_completed inside e = by (begin_at s z.place inside z.closed) refl (begin_inside s z.place inside z.closed) e
    where
      Goal : Type 0
      Goal = Done s (λ (S : List ℕ). Whole (scene.read_at S z (begin_at S z.place inside z.closed)))

      -- where b begins, and is not cut
      same : (b : BeginRead) → begin_at s z.place inside z.closed ≡ b → (CutBegin b → ⊥) → (t : List ℕ) → begin_at (s ++ t) z.place inside z.closed ≡ b
      same b f n t = begin_stable s t z.place inside z.closed (λ c. n (subst CutBegin f c)) ∙ f

      so : (b : BeginRead) → begin_at s z.place inside z.closed ≡ b → (CutBegin b → ⊥) → Done s (λ (S : List ℕ). Whole (scene.read_at S z b)) → Goal
      so b f n d = record { more = d.more; few = d.few; done = rw (same b f n d.more) d.done }

      by : (b : BeginRead) → begin_at s z.place inside z.closed ≡ b → BeginInside s z.place inside z.closed (begin_at s z.place inside z.closed) → scene.read_at s z b ≡ scene.refusal 1 p → Goal ⊎ Overfull s (λ (S : List ℕ) (k : ℕ). scene.read_at S z (begin_at S z.place inside z.closed) ≡ scene.refusal 3 k)
      by (Err (Bad j)) f i e = let y : ◌≡◌ {A = ℕ} 2 1 = cc in absurd (omega arith)
      by (Err (Long j)) f i e = let y : ◌≡◌ {A = ℕ} 3 1 = cc in absurd (omega arith)
      by (Err Cut) f i e =
          or_full
          (λ d.
          let S = s ++ d.more in
          record {
            more = d.more;
            few = d.few;
            done = ⊎_elim (λ t. rw t.1 (tagged_whole z S t.0 z.opened (tag_at S (t.0 + 1)) (tag_at S (t.0 + 1)).answer t.2)) (λ e. rw e tt) d.begins;
          })
          (λ t k r. rw r)
          (begin_completed s z.place inside z.closed h f)
      by (Ok begin.Finished) f i e = let y : ◌≡◌ {A = ℕ} 0 1 = cc in absurd (omega arith)
      by (Ok (begin.Text at)) f i e =
          let to : BeginInside s z.place inside z.closed (Ok (begin.Text at)) = subst (BeginInside s z.place inside z.closed) f i in
          inl (so (Ok (begin.Text at)) f (⊎_elim (λ q. let y : ◌≡◌ {A = ℕ} 0 1 = cc in omega arith) (λ q. let y : ◌≡◌ {A = ℕ} 0 1 = cc in omega arith)) (text_completed at (omega (arith, to.1)) e))
      by (Ok (begin.End at)) f i e =
          let to : BeginInside s z.place inside z.closed (Ok (begin.End at)) = subst (BeginInside s z.place inside z.closed) f i in
          let whole : CutBegin (Ok (begin.End at)) → ⊥ = ⊎_elim (λ q. let y : ◌≡◌ {A = ℕ} 0 1 = cc in omega arith) (λ q. let y : ◌≡◌ {A = ℕ} 0 1 = cc in omega arith) in
          or_full (so (Ok (begin.End at)) f whole) (λ t k r. rw (same (Ok (begin.End at)) f whole t) r) (end_completed at (omega (arith, to.1)) z.opened e)
      by (Ok (begin.Start at)) f i e =
          let to : BeginInside s z.place inside z.closed (Ok (begin.Start at)) = subst (BeginInside s z.place inside z.closed) f i in
          let whole : CutBegin (Ok (begin.Start at)) → ⊥ = ⊎_elim (λ q. let y : ◌≡◌ {A = ℕ} 0 1 = cc in omega arith) (λ q. let y : ◌≡◌ {A = ℕ} 0 1 = cc in omega arith) in
          or_full (so (Ok (begin.Start at)) f whole) (λ t k r. rw (same (Ok (begin.Start at)) f whole t) r) (start_completed at (omega (arith, to.1)) z.opened e)

  -- a scene that ends too soon, completed
  pub next_completed : scene.next s z ≡ scene.refusal 1 p → Done s (λ (S : List ℕ). Whole (scene.next S z)) ⊎ Overfull s (λ (S : List ℕ) (k : ℕ). scene.next S z ≡ scene.refusal 3 k)
  unfolding scene.next
  next_completed e = by z.awaited z.opened e
    where
      by : (a : Bool) (os : List scene.Open) → scene.next_by s z a os ≡ scene.refusal 1 p → Done s (λ (S : List ℕ). Whole (scene.next_by S z a os)) ⊎ Overfull s (λ (S : List ℕ) (k : ℕ). scene.next_by S z a os ≡ scene.refusal 3 k)
      by true (o ∷ os) e = let y : ◌≡◌ {A = ℕ} 0 1 = cc in absurd (omega arith)
      by true [] e = begun_completed false e
      by false os e = begun_completed (not (scene.is_nil os)) e
