-- The URI that a record's class and span name.
--     uri_inside     its span lies inside the table or the scene
--     uri_level      by an accepted table it is the level's, but for xml's
--     uri_named      and so the namespace's
--     uri_xml        of xml's class it is empty
use Prim.Native.Nat.{ℕ, suc, ◌+◌, ◌-◌, ◌≤◌, ◌<◌}
use mathlib.Core.Path.{◌≡◌, refl, sym, ap, ◌∙◌}
use mathlib.Core.List.{List, []}
use mathlib.Core.Bool.{true, false, not, ◌&&◌}
use mathlib.Core.Logic.{◌⊎◌, inl, inr, ⊎_elim}
use native.Mathlib.Omega.{arith}
use borrow.Author.Tests.{eqb-true, ne_eqb, le-leb, lt-leb, leb-true}
use lib.ListN.{length, get_or}
use lib.Dec.{leb, eqb}
use Rattle.std.specs.Prelude.{Some, None}
use Rattle.laws.specs.Reading.{le_or_lt}
use Rattle.compare.specs.Compare.{span_of}
use Rattle.table.specs.Table.{header_of, decode}
use Rattle.table.specs.Judge.{judged, Accepted}
use Rattle.table.specs.Places.{placed, places_of, place_of}
use Rattle.table.proofs.Accepted.{header_in, all_listed}
use Rattle.table.proofs.Namespaces.{span_of_lem, listed_some, unlisted_none}
use Rattle.reader.specs.Namespaces as scene
use Rattle.reader.specs.Held.{SpanHeld}
use Rattle.reader.specs.declared.Span.{Span}
use Rattle.reader.proofs.TagMeaning.{NamespaceHeld}
use Rattle.model.specs.Elements.{space_of}
use Rattle.attributes.proofs.Sorted.{uri_held}
use Rattle.sessions.specs.Sessions.{level_uri}
use Rattle.uris.specs.Uris.{stands, uri_span_of, slice_of, uri_part}
use Rattle.uris.specs.declared.UriSpan.{UriSpan}
use Rattle.uris.specs.declared.Source.{Source}
use Rattle.uris.specs.declared.Source.TheVariants.{Table, Scene}
use Rattle.sessions.proofs.Spaces.{class_bounds, uri_back}
use Rattle.uris.proofs.UriSpans.{inside, listed_class, in_scene, nowhere}

-- ---- inside
abbrev pub StandsIn : List ℕ → List ℕ → Source → ℕ → ℕ → Type 0
StandsIn table s Table at len = at + len ≤ length table
StandsIn table s Scene at len = at + len ≤ length s

pub uri_inside : (table s : List ℕ) (class at len : ℕ)
    → StandsIn table s (uri_span_of table s class at len).source (uri_span_of table s class at len).at (uri_span_of table s class at len).len
uri_inside table s class at len = let w = uri_span_of table s class at len in by w.source w.at w.len (inside table s class at len)
  where
    by : (x : Source) (at len : ℕ) → at + len ≤ length (slice_of table s x) → StandsIn table s x at len
    by Table at len h = h
    by Scene at len h = h

-- ---- by class, with an accepted table
module _ (table : List ℕ) (a : Accepted table ≡ true) (s : List ℕ) where
  zero : (judged table).number ≡ 0
  zero = eqb-true (judged table).number 0 a

  most : (header_of table).namespaces ≤ 30
  most = (header_in table a).few_namespaces

  -- the bytes of the span that is named
  as_part : (class at len : ℕ) (w : UriSpan) → w ≡ uri_span_of table s class at len → uri_part table s class at len ≡ span_of (slice_of table s w.source) w.at w.len
  unfolding uri_part
  as_part class at len w e = ap (λ (v : UriSpan). span_of (slice_of table s v.source) v.at v.len) (sym e)

  uri_listed : (class at len : ℕ) → 1 ≤ class → class ≤ (header_of table).namespaces → uri_part table s class at len ≡ get_or (decode table).uris (class - 1) []
  uri_listed class at len lo hi =
      let h = header_of table in
      let q = get_or (places_of table h) (class - 1) (placed 0 0) in
      let e : Some q ≡ place_of table h class = listed_some table h class lo (omega (arith, all_listed table a)) in
      as_part class at len _ (listed_class table s class at len (judged table) refl zero h refl q e) ∙ span_of_lem table h class q e

  -- of a class that is neither listed nor 255
  uri_empty : (class at len : ℕ) → None ≡ place_of table (header_of table) class → (class ≡ 255 → ⊥) → uri_part table s class at len ≡ []
  uri_empty class at len f n =
      let k : (eqb class 255 && leb (at + len) (length s)) ≡ false = rw (ne_eqb class 255 n) in
      as_part class at len (stands Scene 0 0) (nowhere table s class at len (judged table) refl zero (header_of table) refl f (leb (at + len) (length s)) refl k)

  -- classes behind the listed
  above : (class : ℕ) → 30 < class → None ≡ place_of table (header_of table) class
  above class l = unlisted_none table (header_of table) class (inr (omega (arith, most, all_listed table a)))

  pub uri_unlisted : (at len : ℕ) → at + len ≤ length s → uri_part table s 255 at len ≡ span_of s at len
  uri_unlisted at len h =
      as_part 255 at len (stands Scene at len)
      (in_scene table s 255 at len (judged table) refl zero (header_of table) refl (above 255 (omega arith)) (leb (at + len) (length s)) refl (le-leb (at + len) (length s) h))

  pub uri_xml : (at len : ℕ) → uri_part table s 254 at len ≡ []
  uri_xml at len = uri_empty 254 at len (above 254 (omega arith)) (λ e. omega arith)

  pub uri_level : (class : ℕ) (w : Span) → (class ≤ length (decode table).uris) ⊎ (class ≡ 255) → SpanHeld s w → uri_part table s class w.at w.len ≡ level_uri (decode table) s class w
  unfolding level_uri
  uri_level class w o h = ⊎_elim (λ l. ⊎_elim (λ z. none (omega arith)) (λ z. listed z l) (le_or_lt class 0)) last o
    where
      Level : Type 0
      Level = uri_part table s class w.at w.len ≡ level_uri (decode table) s class w

      none : class ≡ 0 → Level
      none e = rw e (uri_empty 0 w.at w.len (unlisted_none table (header_of table) 0 (inl refl)) (λ q. omega arith))

      last : class ≡ 255 → Level
      last e = rw e (uri_unlisted w.at w.len h)

      listed : 0 < class → class ≤ length (decode table).uris → Level
      listed z l =
          let hi : class ≤ (header_of table).namespaces = omega (arith, all_listed table a) in
          rw (ne_eqb class 0 (λ e. omega arith), ne_eqb class 254 (λ e. omega (arith, most)), ne_eqb class 255 (λ e. omega (arith, most)))
          (uri_listed class w.at w.len (omega arith) hi)

  pub uri_named : (n : scene.Namespace) → NamespaceHeld s n → ((space_of (decode table) s n).class ≡ 254 → ⊥)
      → uri_part table s (space_of (decode table) s n).class (space_of (decode table) s n).uri.at (space_of (decode table) s n).uri.len ≡ scene.uri_of s n
  uri_named n h x = uri_level _ _ (other (class_bounds table a s n)) (uri_held (decode table) s n h) ∙ uri_back table a s n
    where
      class : ℕ
      class = (space_of (decode table) s n).class

      other : (class ≤ length (decode table).uris) ⊎ ((class ≡ 254) ⊎ (class ≡ 255)) → (class ≤ length (decode table).uris) ⊎ (class ≡ 255)
      other (inl l) = inl l
      other (inr (inl e)) = absurd (x e)
      other (inr (inr e)) = inr e
