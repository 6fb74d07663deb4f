-- Where a URI stands, by the tests of `uri_span`; and the part that it names.
--     by_class                   a class is listed where it is one of 1 to N
--     inside                     the span lies inside its slice
--     as_long                    the part is as long as the span
use Prim.Native.Nat.{ℕ, ◌+◌, ◌-◌, ◌≤◌, ◌<◌}
use mathlib.Core.Path.{◌≡◌, refl, sym, ap, ◌∙◌}
use mathlib.Core.List.{List}
use mathlib.Core.Bool.{Bool, true, false, cond, not, ◌&&◌}
use native.Mathlib.Omega.{arith}
use mathlib.Core.Logic.{inl, inr, ⊎_elim}
use borrow.Author.Tests.{eq-eqb, ne_eqb, le-leb, lt-leb, leb-true}
use denote.Ref.{Bor}
use lib.ListN.{length, get_or, drop, length-drop}
use lib.Seq.{length-take-le}
use lib.Dec.{leb, eqb}
use Rattle.std.specs.Prelude.{Option, Some, None}
use Rattle.laws.specs.Reading.{le_or_lt}
use Rattle.laws.proofs.Flags.{and_right}
use Rattle.compare.specs.Compare.{span_of, span_start, place_in}
use Rattle.table.specs.Table.{header_of}
use Rattle.table.specs.Judge.{judged, Accepted}
use Rattle.table.specs.Places.{placed, places_of, place_of}
use Rattle.table.proofs.Namespaces.{inside_of, listed_some, unlisted_none}
use Rattle.table.proofs.Accepted.{all_listed}
use Rattle.table.specs.declared.Answer.{Answer}
use Rattle.table.specs.declared.Header.{Header}
use Rattle.table.specs.declared.Listed.{Listed}
use Rattle.uris.specs.Uris.{stands, in_table, uri_span_of, slice_of, uri_part, uri_place}
use Rattle.uris.specs.declared.UriSpan.{UriSpan}
use Rattle.uris.specs.declared.Source.{Source}
use Rattle.uris.specs.declared.Source.TheVariants.{Table, Scene}

-- ---- the answers of `uri_span`
module _ (table s : List ℕ) (class at len : ℕ) (j : Answer) (p : j ≡ judged table) where
  pub refused_table_lem : (j.number ≡ 0 → ⊥) → stands Scene 0 0 ≡ uri_span_of table s class at len
  unfolding uri_span_of
  refused_table_lem n = rw (← p, ne_eqb j.number 0 n)

  module _ (e : j.number ≡ 0) (h : Header) (q : h ≡ header_of table) where
    -- the place in this table
    known : (o : Option Listed) → o ≡ place_of table h class → o ≡ place_of table (header_of table) class
    known o g = g ∙ ap (λ (x : Header). place_of table x class) q

    pub listed_class : (u : Listed) → Some u ≡ place_of table h class → stands Table u.at u.len ≡ uri_span_of table s class at len
    unfolding uri_span_of
    listed_class u g = rw (← p, eq-eqb j.number 0 e, ← known (Some u) g)

    module _ (f : None ≡ place_of table h class) (i : Bool) (g : i ≡ leb (at + len) (length s)) where
      pub in_scene : (eqb class 255 && i) ≡ true → stands Scene at len ≡ uri_span_of table s class at len
      unfolding uri_span_of
      in_scene k = rw (← p, eq-eqb j.number 0 e, ← known None f, ← g, k)

      pub nowhere : (eqb class 255 && i) ≡ false → stands Scene 0 0 ≡ uri_span_of table s class at len
      unfolding uri_span_of
      nowhere k = rw (← p, eq-eqb j.number 0 e, ← known None f, ← g, k)

-- ---- "for a listed class": 1 to N
module _ (table s : List ℕ) (class at len : ℕ) where
  abbrev header : Header
  header = header_of table

  abbrev listed : Listed
  listed = get_or (places_of table header) (class - 1) (placed 0 0)

  abbrev unlisted : UriSpan
  unlisted = cond (eqb class 255 && leb (at + len) (length s)) (stands Scene at len) (stands Scene 0 0)

  in_range : Accepted table ≡ true → in_table (place_of table header class) unlisted ≡ cond (leb 1 class && leb class header.namespaces) (stands Table listed.at listed.len) unlisted
  in_range a =
      ⊎_elim
      (λ (lo : 1 ≤ class). ⊎_elim
      (λ (hi : class ≤ header.namespaces). rw (← listed_some table header class lo (omega (arith, all_listed table a)), le-leb 1 class lo, le-leb class header.namespaces hi))
      (λ (past : header.namespaces < class). rw (← unlisted_none table header class (inr (omega (arith, all_listed table a))), le-leb 1 class lo, lt-leb class header.namespaces past))
      (le_or_lt class header.namespaces))
      (λ (none : class < 1). let z : class ≡ 0 = omega arith in rw (← unlisted_none table header class (inl z), lt-leb 1 class none))
      (le_or_lt 1 class)

  pub by_class : uri_span_of table s class at len
      ≡ cond (not (eqb (judged table).number 0)) (stands Scene 0 0) (cond (leb 1 class && leb class header.namespaces) (stands Table listed.at listed.len) unlisted)
  unfolding uri_span_of
  by_class = by (eqb (judged table).number 0) refl
    where
      by : (b : Bool) → b ≡ eqb (judged table).number 0
          → cond (not b) (stands Scene 0 0) (in_table (place_of table header class) unlisted)
          ≡ cond (not b) (stands Scene 0 0) (cond (leb 1 class && leb class header.namespaces) (stands Table listed.at listed.len) unlisted)
      by true e = in_range (sym e)
      by false e = refl

-- ---- it lies inside its slice
module _ (table s : List ℕ) (class at len : ℕ) where
  pub inside : let w = uri_span_of table s class at len in w.at + w.len ≤ length (slice_of table s w.source)
  unfolding uri_span_of
  inside = by (eqb (judged table).number 0) (place_of table (header_of table) class) refl (eqb class 255 && leb (at + len) (length s)) refl
    where
      by : (a : Bool) (o : Option Listed) → o ≡ place_of table (header_of table) class → (c : Bool) → c ≡ (eqb class 255 && leb (at + len) (length s))
          → let w = cond (not a) (stands Scene 0 0) (in_table o (cond c (stands Scene at len) (stands Scene 0 0))) in w.at + w.len ≤ length (slice_of table s w.source)
      by false o g c e = omega arith
      by true (Some u) g c e = inside_of table (header_of table) class u g
      by true None g true e = leb-true (at + len) (length s) (and_right (eqb class 255) (leb (at + len) (length s)) (sym e))
      by true None g false e = omega arith

  -- so the part is as long as `uri_span` says
  pub as_long : length (uri_part table s class at len) ≡ (uri_span_of table s class at len).len
  unfolding uri_part
  as_long =
      let w = uri_span_of table s class at len in
      let b = slice_of table s w.source in
      length-take-le w.len (drop w.at b) (omega (arith, length-drop w.at b, inside))

-- ---- the part that it names
module _ (table s : List ℕ) (class at len : ℕ) (w : UriSpan) (p : w ≡ uri_span_of table s class at len) where
  part_by : (x : Source) → w.source ≡ x → span_of (slice_of table s x) w.at w.len ≡ uri_part table s class at len
  unfolding uri_part
  part_by x e = ap (λ (y : Source). span_of (slice_of table s y) w.at w.len) (sym e) ∙ ap (λ (v : UriSpan). span_of (slice_of table s v.source) v.at v.len) p

  pub table_part : (r : List ℕ) → w.source ≡ Table → r ≡ span_of table w.at w.len → r ≡ uri_part table s class at len
  table_part r e h = h ∙ part_by Table e

  pub scene_part : (r : List ℕ) → w.source ≡ Scene → r ≡ span_of s w.at w.len → r ≡ uri_part table s class at len
  scene_part r e h = h ∙ part_by Scene e

-- ---- where that part stands
module _ (table s : Bor (List ℕ)) (class at len : ℕ) (w : UriSpan) (p : w ≡ uri_span_of table.now s.now class at len) where
  -- the place that `part_of` gives
  abbrev given : Source → ℕ → ℕ × ℕ
  given x k = let a = slice_of table s x in place_in a (span_start a.now k)

  given_inside : (x : Source) (k : ℕ) → k ≤ length (slice_of table.now s.now x) → given x k ≡ place_in (slice_of table s x) k
  given_inside Table k l = rw (le-leb k (length table.now) l) refl
  given_inside Scene k l = rw (le-leb k (length s.now) l) refl

  place_by : (x : Source) → w.source ≡ x → given x w.at ≡ uri_place table s class at len
  unfolding uri_place
  place_by x e =
      let u = uri_span_of table.now s.now class at len in
      ap (λ (y : Source). given y w.at) (sym e) ∙ ap (λ (v : UriSpan). given v.source v.at) p ∙ given_inside u.source u.at (omega (arith, inside table.now s.now class at len))

  pub table_place : (r : ℕ × ℕ) → w.source ≡ Table → r ≡ place_in table (span_start table.now w.at) → r ≡ uri_place table s class at len
  table_place r e h = h ∙ place_by Table e

  pub scene_place : (r : ℕ × ℕ) → w.source ≡ Scene → r ≡ place_in s (span_start s.now w.at) → r ≡ uri_place table s class at len
  scene_place r e h = h ∙ place_by Scene e
