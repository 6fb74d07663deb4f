-- The URIs of a table, where they stand, and the classes that name them.
--     spans, places_inside, span_of_lem    the part of the table at a listed URI's place is the URI
--     listed_some, unlisted_none           which classes have a place
--     class_of_listed, listed_of_class     in an accepted table the class of a listed URI is its place, from 1, and back
--     one_class                            two URIs of one listed class are equal
--     class_nil, class_xml                 the classes of no namespace and of xml's
--     uris_few                             no more URIs than are asked for
use Prim.Native.Nat.{ℕ, zero, suc, ◌+◌, ◌-◌, ◌*◌, ◌≤◌, ◌<◌}
use mathlib.Core.Path.{◌≡◌, refl, sym, ap, ◌∙◌, subst}
use mathlib.Core.List.{List, [], ◌∷◌, map}
use mathlib.Core.Bool.{Bool, true, false, cond}
use mathlib.Core.Logic.{◌⊎◌, inl, inr, ⊎_elim}
use native.Mathlib.Nat.{add-zero}
use native.Mathlib.Omega.{arith}
use borrow.Author.Tests.{ne_eqb, lt-ltb, ltb-true}
use lib.ListN.{length, get_or, take, drop, length-map, get_or-map, get_or-eq_default}
use lib.Dec.{eqb, ltb, leb}
use Rattle.std.specs.Prelude.{Option, None, Some, slice_get}
use Rattle.std.proofs.lemmas.Option.{slice_get_past, slice_get_within, get_or_from_slice_get, slice_get-get_or}
use Rattle.laws.specs.Lists.{same_list, any, any_pair}
use Rattle.laws.specs.Members.{In, All}
use Rattle.laws.specs.Reading.{le_or_lt}
use Rattle.laws.proofs.Flags.{or_left, or_right}
use Rattle.laws.proofs.Members.{in_at, none_in, all_at}
use Rattle.compare.specs.Compare.{span_of, xml_uri}
use Rattle.compare.proofs.Equal.{same_refl, same_eq}
use Rattle.table.specs.Table.{Table, header_of, uris_from, uris_of, decode, listed_from, class_of}
use Rattle.table.specs.Judge.{Accepted}
use Rattle.table.specs.Places.{placed, places_from, places_of, place_of}
use Rattle.table.specs.declared.Header.{Header}
use Rattle.table.specs.declared.Listed.{Listed}
use Rattle.table.proofs.Walk.{uri_at, none_some, last_uri, last_place, first_uri, first_place, place_inside}
use Rattle.table.proofs.Accepted.{header_in, all_listed, no_pair, no_xml, not_empty, uri_in_lem}

-- no more URIs than are asked for
pub uris_few : (n : ℕ) (l : List ℕ) → length (uris_from n l) ≤ n
unfolding uris_from
uris_few zero l = omega arith
uris_few (suc n) [] = omega arith
uris_few (suc n) (k ∷ l) = by (leb k (length l)) (uris_few n (drop k l))
  where
    by : (b : Bool) → length (uris_from n (drop k l)) ≤ n → length (cond b (take k l ∷ uris_from n (drop k l)) []) ≤ suc n
    by true h = omega arith
    by false h = omega arith

-- the classes of no namespace and of xml's
pub class_nil : (t : Table) → class_of t [] ≡ 0
unfolding class_of
class_nil t = refl

pub class_xml : (t : Table) → class_of t xml_uri ≡ 254
unfolding class_of
class_xml t = rw (same_refl xml_uri)

module _ (t : List ℕ) where
  abbrev pub span_at : Listed → List ℕ
  span_at q = span_of t q.at q.len

  abbrev pub Inside : Listed → Type 0
  Inside q = q.at + q.len ≤ length t

  spans_from : (n p : ℕ) → (map span_at (places_from n p (drop p t)) ≡ uris_from n (drop p t)) × All Inside (places_from n p (drop p t))
  unfolding places_from uris_from
  spans_from zero p = (refl, tt)
  spans_from (suc n) p = by (uri_at t p) refl (λ q. spans_from n q)
    where
      by : (o : Option Listed) → o ≡ uri_at t p
          → ((q : ℕ) → (map span_at (places_from n q (drop q t)) ≡ uris_from n (drop q t)) × All Inside (places_from n q (drop q t)))
          → (map span_at (places_from (suc n) p (drop p t)) ≡ uris_from (suc n) (drop p t)) × All Inside (places_from (suc n) p (drop p t))
      by None e ih = (rw (last_place t p n e, last_uri t p n e), rw (last_place t p n e) tt)
      by (Some u) e ih =
          let rest = ih (u.at + u.len) in (
            rw (first_place t p n u e, first_uri t p n u e) (ap (λ (us : List (List ℕ)). span_at u ∷ us) rest.0),
            rw (first_place t p n u e) (place_inside t p n u e, rest.1),
          )

module _ (t : List ℕ) (h : Header) where
  pub spans : map (λ (q : Listed). span_of t q.at q.len) (places_of t h) ≡ uris_of t h
  spans = (spans_from t h.namespaces (4 + 4 * h.rules)).0

  pub places_inside : All (λ (q : Listed). q.at + q.len ≤ length t) (places_of t h)
  places_inside = (spans_from t h.namespaces (4 + 4 * h.rules)).1

  pub span_at_lem : (i : ℕ) → span_at t (get_or (places_of t h) i (placed 0 0)) ≡ get_or (uris_of t h) i []
  span_at_lem i = sym (get_or-map (span_at t) (places_of t h) i (placed 0 0)) ∙ ap (λ (us : List (List ℕ)). get_or us i []) spans

  pub inside_at : (i : ℕ) → Inside t (get_or (places_of t h) i (placed 0 0))
  inside_at i = ⊎_elim past here (le_or_lt (length (places_of t h)) i)
    where
      past : length (places_of t h) ≤ i → Inside t (get_or (places_of t h) i (placed 0 0))
      past l = rw (get_or-eq_default (places_of t h) (placed 0 0) l) (omega arith)

      here : i < length (places_of t h) → Inside t (get_or (places_of t h) i (placed 0 0))
      here l = all_at (Inside t) (places_of t h) places_inside (get_or (places_of t h) i (placed 0 0)) (in_at (places_of t h) i (placed 0 0) l)

  pub as_many : length (places_of t h) ≡ length (uris_of t h)
  as_many = sym (length-map (places_of t h) (λ (q : Listed). span_of t q.at q.len)) ∙ ap length spans

  -- the same of `place_of`
  pub place_listed : (class : ℕ) (u : Listed) → Some u ≡ place_of t h class → (1 ≤ class) × (class ≤ length (uris_of t h)) × (slice_get (places_of t h) (class - 1) ≡ Some u)
  unfolding place_of
  place_listed class u e = by (ltb 0 class) refl e
    where
      by : (b : Bool) → b ≡ ltb 0 class → Some u ≡ cond b (slice_get (places_of t h) (class - 1)) None
          → (1 ≤ class) × (class ≤ length (uris_of t h)) × (slice_get (places_of t h) (class - 1) ≡ Some u)
      by true q f =
          let l = ltb-true 0 class (sym q) in
          (omega (arith, l), omega (arith, as_many, l, slice_get_within (places_of t h) (class - 1) u (sym f)), sym f)
      by false q f = absurd (none_some (sym f))

  pub span_of_lem : (class : ℕ) (u : Listed) → Some u ≡ place_of t h class → span_at t u ≡ get_or (uris_of t h) (class - 1) []
  span_of_lem class u e =
      ap (span_at t) (sym (get_or_from_slice_get (places_of t h) (class - 1) u (placed 0 0) (place_listed class u e).2)) ∙ span_at_lem (class - 1)

  pub inside_of : (class : ℕ) (u : Listed) → Some u ≡ place_of t h class → Inside t u
  inside_of class u e = subst (Inside t) (get_or_from_slice_get (places_of t h) (class - 1) u (placed 0 0) (place_listed class u e).2) (inside_at (class - 1))

  pub listed_some : (class : ℕ) → 1 ≤ class → class ≤ length (uris_of t h) → Some (get_or (places_of t h) (class - 1) (placed 0 0)) ≡ place_of t h class
  unfolding place_of
  listed_some class lo hi = rw (lt-ltb 0 class lo) (sym (slice_get-get_or (places_of t h) (class - 1) (placed 0 0) (omega (arith, as_many))))

  pub unlisted_none : (class : ℕ) → (class ≡ 0) ⊎ (length (uris_of t h) < class) → None ≡ place_of t h class
  unfolding place_of
  unlisted_none class (inl z) = simp z
  unlisted_none class (inr l) = rw (lt-ltb 0 class (omega arith)) (sym (slice_get_past (places_of t h) (class - 1) (omega (arith, as_many))))

-- ---- the place of a URI in a list
listed_at : (us : List (List ℕ)) (k i : ℕ) → i < length us → any_pair same_list us ≡ false → listed_from us k (get_or us i []) ≡ k + i
unfolding listed_from any_pair
listed_at [] k i l e = absurd (omega arith)
listed_at (u ∷ us) k zero l e = simp (same_refl u, add-zero)
listed_at (u ∷ us) k (suc i) l e =
    let f : same_list u (get_or us i []) ≡ false = none_in (same_list u) (get_or us i []) us (or_left (any (same_list u) us) (any_pair same_list us) e) (in_at us i [] (omega arith)) in
    simp f (listed_at us (k + 1) i (omega arith) (or_right (any (same_list u) us) (any_pair same_list us) e) ∙ omega arith)

-- it is k or more, and below the list's end or 255
listed_in : (us : List (List ℕ)) (k : ℕ) (uri : List ℕ) → ((k ≤ listed_from us k uri) × (listed_from us k uri < k + length us)) ⊎ (listed_from us k uri ≡ 255)
unfolding listed_from
listed_in [] k uri = inr refl
listed_in (u ∷ us) k uri = by (same_list u uri) (listed_in us (k + 1) uri)
  where
    by : (b : Bool) → ((k + 1 ≤ listed_from us (k + 1) uri) × (listed_from us (k + 1) uri < k + 1 + length us)) ⊎ (listed_from us (k + 1) uri ≡ 255)
        → ((k ≤ cond b k (listed_from us (k + 1) uri)) × (cond b k (listed_from us (k + 1) uri) < k + suc (length us))) ⊎ (cond b k (listed_from us (k + 1) uri) ≡ 255)
    by true ih = inl (omega arith)
    by false (inl r) = inl (omega arith)
    by false (inr r) = inr r

at_listed : (us : List (List ℕ)) (k : ℕ) (uri : List ℕ) (i : ℕ) → k + length us ≤ 255 → i < length us → listed_from us k uri ≡ k + i → uri ≡ get_or us i []
unfolding listed_from
at_listed [] k uri i m l e = absurd (omega arith)
at_listed (u ∷ us) k uri i m l e = by (same_list u uri) refl i l e (λ j. at_listed us (k + 1) uri j (omega arith))
  where
    by : (b : Bool) → b ≡ same_list u uri → (j : ℕ) → j < suc (length us) → cond b k (listed_from us (k + 1) uri) ≡ k + j
        → ((i' : ℕ) → i' < length us → listed_from us (k + 1) uri ≡ k + 1 + i' → uri ≡ get_or us i' []) → uri ≡ get_or (u ∷ us) j []
    by true q zero n d ih = sym (same_eq u uri (sym q))
    by true q (suc j) n d ih = absurd (omega arith)
    by false q zero n d ih = absurd (⊎_elim (λ r. omega arith) (λ r. omega arith) (listed_in us (k + 1) uri))
    by false q (suc j) n d ih = ih j (omega arith) (omega arith)

nothing : (u : List ℕ) → length u ≡ 0 → u ≡ []
nothing [] e = refl
nothing (x ∷ u) e = absurd (omega arith)

class_open : (t : Table) (u : List ℕ) → (length u ≡ 0 → ⊥) → same_list u xml_uri ≡ false → class_of t u ≡ listed_from t.uris 1 u
unfolding class_of
class_open t u n x = simp (ne_eqb (length u) 0 n, x)

module _ (t : List ℕ) (a : Accepted t ≡ true) where
  abbrev us : List (List ℕ)
  us = uris_of t (header_of t)

  pub class_of_listed : (i : ℕ) → i < (header_of t).namespaces → class_of (decode t) (get_or (uris_of t (header_of t)) i []) ≡ suc i
  class_of_listed i l =
      let u : List ℕ = get_or us i [] in
      let m : In u us = uri_in_lem t a i l in
      class_open (decode t) u (λ z. not_empty t a u m (nothing u z)) (none_in (λ (v : List ℕ). same_list v xml_uri) u us (no_xml t a) m)
      ∙ listed_at us 1 i (omega (arith, all_listed t a)) (no_pair t a)
      ∙ omega arith

  pub listed_of_class : (u : List ℕ) (i : ℕ) → i < (header_of t).namespaces → class_of (decode t) u ≡ suc i → u ≡ get_or (uris_of t (header_of t)) i []
  unfolding class_of
  listed_of_class u i l e = by (eqb (length u) 0) (same_list u xml_uri) e
    where
      by : (x y : Bool) → cond x 0 (cond y 254 (listed_from us 1 u)) ≡ suc i → u ≡ get_or us i []
      by true y d = absurd (omega arith)
      by false true d = absurd (omega (arith, (header_in t a).few_namespaces))
      by false false d = at_listed us 1 u i (omega (arith, all_listed t a, (header_in t a).few_namespaces)) (omega (arith, all_listed t a)) (omega arith)

  pub one_class : (u v : List ℕ) → 1 ≤ class_of (decode t) u → class_of (decode t) u ≤ (header_of t).namespaces → class_of (decode t) u ≡ class_of (decode t) v → u ≡ v
  one_class u v l m e =
      let i : ℕ = class_of (decode t) u - 1 in
      let n : i < (header_of t).namespaces = omega arith in
      let f : class_of (decode t) u ≡ suc i = omega arith in
      listed_of_class u i n f ∙ sym (listed_of_class v i n (sym e ∙ f))

  pub class_in_lem : (u : List ℕ) → (class_of (decode t) u ≤ (header_of t).namespaces) ⊎ ((class_of (decode t) u ≡ 254) ⊎ (class_of (decode t) u ≡ 255))
  unfolding class_of
  class_in_lem u = by (eqb (length u) 0) (same_list u xml_uri) (listed_in us 1 u)
    where
      by : (x y : Bool) → ((1 ≤ listed_from us 1 u) × (listed_from us 1 u < 1 + length us)) ⊎ (listed_from us 1 u ≡ 255)
          → (cond x 0 (cond y 254 (listed_from us 1 u)) ≤ (header_of t).namespaces) ⊎ ((cond x 0 (cond y 254 (listed_from us 1 u)) ≡ 254) ⊎ (cond x 0 (cond y 254 (listed_from us 1 u)) ≡ 255))
      by true y r = inl (omega arith)
      by false true r = inr (inl refl)
      by false false (inl r) = inl (omega (arith, all_listed t a))
      by false false (inr r) = inr (inr r)
