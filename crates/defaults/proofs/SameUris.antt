-- The URI call on a table with the rules that it lacks.
--     same_part     two accepted tables with the same URIs: it gives the same bytes
--     uri_same      so it does here
--     uri_later     a listed URI stands 4 bytes further on for each rule that is added
use Prim.Native.Nat.{ℕ, zero, suc, ◌+◌, ◌*◌, ◌-◌, ◌≤◌, ◌<◌}
use mathlib.Core.Path.{◌≡◌, refl, sym, ap, ap₂, ◌∙◌}
use mathlib.Core.List.{List, [], ◌∷◌, map}
use mathlib.Core.Bool.{Bool, true, false, cond, ◌&&◌}
use native.Mathlib.Omega.{arith}
use lib.ListN.{length, drop, get_or}
use lib.Dec.{eqb, leb, ltb}
use Rattle.std.specs.Prelude.{Option, Some, None, slice_get, option_map}
use Rattle.std.proofs.lemmas.Option.{slice_get-map}
use Rattle.compare.specs.Compare.{span_of}
use Rattle.table.specs.Table.{header_of, uris_of}
use Rattle.table.specs.Judge.{Accepted}
use Rattle.table.specs.Places.{placed, places_from, places_of, place_of}
use Rattle.table.specs.declared.Header.{Header}
use Rattle.table.specs.declared.Listed.{Listed}
use Rattle.table.proofs.Walk.{none_some}
use Rattle.table.proofs.Namespaces.{place_listed, span_of_lem, listed_some}
use Rattle.uris.specs.Uris.{stands, in_table, uri_span_of, slice_of, uri_part}
use Rattle.uris.specs.declared.UriSpan.{UriSpan}
use Rattle.uris.specs.declared.Source.TheVariants.{Table, Scene}
use Rattle.defaults.specs.Former.{added_words, Suffices, with_any, later}
use Rattle.defaults.proofs.Added.{header_more, behind_more, uris_more}
use Rattle.defaults.proofs.Judged.{accepted_more}

abbrev moved : ℕ → Listed → Listed
moved n q = placed (q.at + n) q.len

places_later : (n p k : ℕ) (l : List ℕ) → places_from n (p + k) l ≡ map (moved k) (places_from n p l)
unfolding places_from
places_later zero p k l = refl
places_later (suc n) p k [] = refl
places_later (suc n) p k (b ∷ l) = by (leb b (length l)) (places_later n (p + 1 + b) k (drop b l))
  where
    by : (c : Bool) → places_from n (p + 1 + b + k) (drop b l) ≡ map (moved k) (places_from n (p + 1 + b) (drop b l))
        → cond c (placed (p + k + 1) b ∷ places_from n (p + k + 1 + b) (drop b l)) [] ≡ map (moved k) (cond c (placed (p + 1) b ∷ places_from n (p + 1 + b) (drop b l)) [])
    by true ih =
        let e : p + k + 1 ≡ p + 1 + k = omega arith in
        let f : p + k + 1 + b ≡ p + 1 + b + k = omega arith in
        ap₂ (λ (i j : ℕ). placed i b ∷ places_from n j (drop b l)) e f ∙ ap (λ (qs : List Listed). placed (p + 1 + k) b ∷ qs) ih
    by false ih = refl

-- where a URI stands that is not listed, by the test for a span inside the scene
abbrev span_by : Bool → ℕ → ℕ → UriSpan
span_by inside at len = cond inside (stands Scene at len) (stands Scene 0 0)

module _ (s : List ℕ) (class at len : ℕ) where
  abbrev inside : Bool
  inside = eqb class 255 && leb (at + len) (length s)

  accepted_span : (t : List ℕ) → Accepted t ≡ true → uri_span_of t s class at len ≡ in_table (place_of t (header_of t) class) (span_by inside at len)
  unfolding uri_span_of
  accepted_span t a = rw a

-- tables with the same URIs
module _ (u t : List ℕ) (b : Accepted u ≡ true) (a : Accepted t ≡ true) (same : uris_of u (header_of u) ≡ uris_of t (header_of t)) where
  pub same_part : (s : List ℕ) (class at len : ℕ) → uri_part u s class at len ≡ uri_part t s class at len
  unfolding uri_part
  same_part s class at len =
      ap (part u) (accepted_span s class at len u b)
      ∙ by (place_of u (header_of u) class) refl (place_of t (header_of t) class) refl
      ∙ ap (part t) (sym (accepted_span s class at len t a))
    where
      part : List ℕ → UriSpan → List ℕ
      part v w = span_of (slice_of v s w.source) w.at w.len

      one_listed : (v w : List ℕ) → uris_of v (header_of v) ≡ uris_of w (header_of w) → (q : Listed) → Some q ≡ place_of v (header_of v) class → None ≡ place_of w (header_of w) class → ⊥
      one_listed v w e q f g =
          let l = place_listed v (header_of v) class q f in
          none_some (g ∙ sym (listed_some w (header_of w) class l.0 (omega (arith, l.1, ap length e))))

      else_same : (c : Bool) → part u (span_by c at len) ≡ part t (span_by c at len)
      else_same true = refl
      else_same false = refl

      by : (o : Option Listed) → o ≡ place_of u (header_of u) class → (p : Option Listed) → p ≡ place_of t (header_of t) class
          → part u (in_table o (span_by (inside s class at len) at len)) ≡ part t (in_table p (span_by (inside s class at len) at len))
      by (Some q) e (Some r) f =
          span_of_lem u (header_of u) class q e ∙ ap (λ (us : List (List ℕ)). get_or us (class - 1) []) same ∙ sym (span_of_lem t (header_of t) class r f)
      by (Some q) e None f = absurd (one_listed u t same q e f)
      by None e (Some r) f = absurd (one_listed t u (sym same) r f e)
      by None e None f = else_same (inside s class at len)

module _ (t : List ℕ) (a : Accepted t ≡ true) (enough : Suffices t) where
  abbrev h : Header
  h = header_of t

  abbrev g : Header
  g = header_of (with_any t)

  abbrev n : ℕ
  n = 4 * length (added_words t)

  places_more : places_of (with_any t) g ≡ map (moved n) (places_of t h)
  places_more =
      let e : 4 + 4 * (h.rules + length (added_words t)) ≡ 4 + 4 * h.rules + n = omega arith in
      ap (places_of (with_any t)) (header_more t a)
      ∙ ap₂ (places_from h.namespaces) e (behind_more t a)
      ∙ places_later h.namespaces (4 + 4 * h.rules) n (drop (4 + 4 * h.rules) t)

  place_more : (class : ℕ) → place_of (with_any t) g class ≡ option_map (moved n) (place_of t h class)
  unfolding place_of
  place_more class = ap (λ (qs : List Listed). cond (ltb 0 class) (slice_get qs (class - 1)) None) places_more ∙ by (ltb 0 class)
    where
      by : (b : Bool) → cond b (slice_get (map (moved n) (places_of t h)) (class - 1)) None ≡ option_map (moved n) (cond b (slice_get (places_of t h) (class - 1)) None)
      by true = slice_get-map (moved n) (places_of t h) (class - 1)
      by false = refl

  module _ (s : List ℕ) (class at len : ℕ) where
    pub uri_later : uri_span_of (with_any t) s class at len ≡ later (4 * length (added_words t)) (uri_span_of t s class at len)
    uri_later =
        accepted_span s class at len (with_any t) (accepted_more t a enough)
        ∙ ap (λ (o : Option Listed). in_table o (span_by (inside s class at len) at len)) (place_more class)
        ∙ by (place_of t h class) (inside s class at len)
        ∙ ap (later n) (sym (accepted_span s class at len t a))
      where
        by : (o : Option Listed) (c : Bool) → in_table (option_map (moved n) o) (span_by c at len) ≡ later n (in_table o (span_by c at len))
        by (Some q) c = refl
        by None true = refl
        by None false = refl

    pub uri_same : uri_part (with_any t) s class at len ≡ uri_part t s class at len
    uri_same = same_part (with_any t) t (accepted_more t a enough) a (uris_more t a) s class at len
