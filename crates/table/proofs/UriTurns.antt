-- The turns and ends of the loops that go through a table's URIs: v is the answer, i of n URIs are behind p.
use Prim.Native.Nat.{ℕ, suc, ◌+◌, ◌-◌, ◌*◌, ◌≤◌, ◌<◌}
use mathlib.Core.Path.{◌≡◌, refl, sym, ap, ◌∙◌}
use mathlib.Core.List.{List, [], ◌∷◌}
use mathlib.Core.Bool.{Bool, true, false, cond, not, ◌||◌, or-true}
use mathlib.Core.Logic.{⊎_elim}
use native.Mathlib.Nat.{sub-zero}
use native.Mathlib.Omega.{arith}
use borrow.Author.Tests.{eq-eqb, ne_eqb, le-leb, lt-leb, lt-ltb, le-ltb}
use lib.ListN.{length, drop, length-drop}
use lib.Dec.{eqb, ltb}
use Rattle.std.specs.Prelude.{Option, None, Some, slice_get}
use Rattle.laws.specs.Lists.{same_list, any, any_pair}
use Rattle.laws.specs.Reading.{le_or_lt}
use Rattle.laws.proofs.Flags.{eqb_same}
use Rattle.laws.proofs.Lists.{any_same}
use Rattle.compare.specs.Compare.{span_of, xml_uri}
use Rattle.compare.proofs.Equal.{same_sym}
use Rattle.table.specs.Table.{uris_from, uris_of, listed_from, class_of, table_of}
use Rattle.table.specs.Judge.{uris_fill, uris_clash, length_fits, is_empty}
use Rattle.table.specs.Places.{places_from, place_of}
use Rattle.table.specs.declared.Header.{Header}
use Rattle.table.specs.declared.Listed.{Listed}
use Rattle.table.proofs.Namespaces.{uris_few}
use Rattle.table.proofs.Walk.{uri_at, no_uri, one_uri, no_place, one_place, no_fill, one_fill}

either_none : (b : Bool) (o : Option Listed) → None ≡ o → None ≡ cond b o None
either_none true o e = e
either_none false o e = refl

module _ (t : List ℕ) (p n i : ℕ) where
  all_past : n ≤ i → uris_from (n - i) (drop p t) ≡ []
  unfolding uris_from
  all_past h = let z : n - i ≡ 0 = omega arith in ap (λ (k : ℕ). uris_from k (drop p t)) z

  -- which URI is this one?
  module _ (uri : List ℕ) (v : ℕ) (inv : listed_from (uris_from (n - i) (drop p t)) (i + 1) uri ≡ v) where
    pub listed_done : n ≤ i → 255 ≡ v
    unfolding listed_from
    listed_done h = simp (← inv, all_past h)

    module _ (l : i < n) where
      pub listed_none : None ≡ uri_at t p → 255 ≡ v
      unfolding listed_from
      listed_none e = simp (← inv, no_uri t p n i l e)

      module _ (u : Listed) (e : Some u ≡ uri_at t p) (part : List ℕ) (f : part ≡ span_of t u.at u.len) (b : Bool) (g : b ≡ same_list part uri) where
        pub listed_here : b ≡ true → i + 1 ≡ v
        unfolding listed_from
        listed_here h = simp (← inv, one_uri t p n i l u e, ← f, ← g, h)

        pub listed_on : b ≡ false → listed_from (uris_from (n - (i + 1)) (drop (u.at + u.len) t)) (i + 1 + 1) uri ≡ v
        unfolding listed_from
        listed_on h = simp (← inv, one_uri t p n i l u e, ← f, ← g, h)

  -- where does the URI of a class stand?
  module _ (class : ℕ) (v : Option Listed) (inv : cond (ltb i class) (slice_get (places_from (n - i) p (drop p t)) (class - (i + 1))) None ≡ v) where
    pub place_done : n ≤ i → None ≡ v
    unfolding places_from
    place_done h = let z : n - i ≡ 0 = omega arith in either_none (ltb i class) _ (rw z refl) ∙ inv

    module _ (l : i < n) where
      pub place_none : None ≡ uri_at t p → None ≡ v
      place_none e = either_none (ltb i class) _ (rw (no_place t p n i l e) refl) ∙ inv

      module _ (u : Listed) (e : Some u ≡ uri_at t p) where
        pub place_here : i + 1 ≡ class → Some u ≡ v
        place_here h = let k : class - (i + 1) ≡ 0 = omega arith in simp (← inv, lt-ltb i class (omega arith), one_place t p n i l u e, k)

        pub place_on : (i + 1 ≡ class → ⊥) → cond (ltb (i + 1) class) (slice_get (places_from (n - (i + 1)) (u.at + u.len) (drop (u.at + u.len) t)) (class - (i + 1 + 1))) None ≡ v
        place_on h = ⊎_elim past before (le_or_lt class i)
          where
            past : class ≤ i → cond (ltb (i + 1) class) (slice_get (places_from (n - (i + 1)) (u.at + u.len) (drop (u.at + u.len) t)) (class - (i + 1 + 1))) None ≡ v
            past m = simp (← inv, le-ltb (i + 1) class (omega arith), le-ltb i class m)

            before : i < class → cond (ltb (i + 1) class) (slice_get (places_from (n - (i + 1)) (u.at + u.len) (drop (u.at + u.len) t)) (class - (i + 1 + 1))) None ≡ v
            before m = let k : class - (i + 1) ≡ suc (class - (i + 1 + 1)) = omega arith in simp (← inv, lt-ltb (i + 1) class (omega arith), lt-ltb i class m, one_place t p n i l u e, k)

  -- do the URIs fill the table?
  module _ (v : Bool) (inv : uris_fill (n - i) (drop p t) ≡ v) where
    pub fill_done : n ≤ i → p ≤ length t → (b : Bool) → b ≡ eqb p (length t) → b ≡ v
    unfolding uris_fill
    fill_done h m b e =
        let z : n - i ≡ 0 = omega arith in
        e ∙ sym (sym inv ∙ ap (λ (k : ℕ). uris_fill k (drop p t)) z ∙ ap (λ (k : ℕ). eqb k 0) (length-drop p t) ∙ eqb_same (length t - p) 0 p (length t) (λ x. omega arith) (λ x. omega arith))

    module _ (l : i < n) where
      pub fill_none : None ≡ uri_at t p → false ≡ v
      fill_none e = sym (no_fill t p n i l e) ∙ inv

      pub fill_on : (u : Listed) → Some u ≡ uri_at t p → uris_fill (n - (i + 1)) (drop (u.at + u.len) t) ≡ v
      fill_on u e = sym (one_fill t p n i l u e) ∙ inv

  -- is one of them listed twice, or that of xml?
  module _ (v : Bool) (inv : uris_clash (uris_from (n - i) (drop p t)) ≡ v) where
    pub clash_done : n ≤ i → false ≡ v
    unfolding any any_pair
    clash_done h = simp (← inv, all_past h)

    module _ (l : i < n) where
      pub clash_none : None ≡ uri_at t p → false ≡ v
      unfolding any any_pair
      clash_none e = simp (← inv, no_uri t p n i l e)

      module _ (u : Listed) (e : Some u ≡ uri_at t p) (part : List ℕ) (f : part ≡ span_of t u.at u.len) where
        abbrev rest : List (List ℕ)
        rest = uris_from (n - (i + 1)) (drop (u.at + u.len) t)

        opened : uris_clash (part ∷ rest) ≡ v
        opened = ap (λ (k : List ℕ). uris_clash (k ∷ rest)) f ∙ ap uris_clash (sym (one_uri t p n i l u e)) ∙ inv

        pub clash_xml : (b : Bool) → b ≡ same_list part xml_uri → b ≡ true → true ≡ v
        unfolding any
        clash_xml b g h = sym (sym opened ∙ simp (← g, h))

        module _ (a : Bool) (ga : a ≡ same_list part xml_uri) (b : Bool) (gb : b ≡ any (λ (w : List ℕ). same_list w part) rest) where
          twice : b ≡ any (same_list part) rest
          twice = gb ∙ any_same (λ (w : List ℕ). same_list w part) (same_list part) (λ w. same_sym w part) rest

          pub clash_twice : a ≡ false → b ≡ true → true ≡ v
          unfolding any any_pair
          clash_twice h k = sym (sym opened ∙ simp (← ga, h, ← twice, k, or-true))

          pub clash_on : a ≡ false → b ≡ false → uris_clash rest ≡ v
          unfolding any any_pair
          clash_on h k = sym (sym opened ∙ simp (← ga, h, ← twice, k))

-- where the loops begin
pub listed_start : (t : List ℕ) (p n : ℕ) (uri : List ℕ) → listed_from (uris_from (n - 0) (drop p t)) (0 + 1) uri ≡ listed_from (uris_from n (drop p t)) 1 uri
listed_start t p n uri = simp sub-zero

module _ (t : List ℕ) (h : Header) (p : ℕ) (e : p ≡ 4 + 4 * h.rules) where
  pub place_start : (class : ℕ) → cond (ltb 0 class) (slice_get (places_from (h.namespaces - 0) p (drop p t)) (class - (0 + 1))) None ≡ place_of t h class
  unfolding place_of
  place_start class = simp (sub-zero, e)

  pub length_short : length t < p → false ≡ length_fits t h
  length_short l = simp (← e, lt-leb p (length t) l)

  pub fill_start : p ≤ length t → uris_fill (h.namespaces - 0) (drop p t) ≡ length_fits t h
  fill_start l = simp (sub-zero, ← e, le-leb p (length t) l)

  pub clash_start : uris_clash (uris_from (h.namespaces - 0) (drop p t)) ≡ uris_clash (uris_of t h)
  clash_start = simp (sub-zero, e)

  pub class_listed : (uri : List ℕ) → (length uri ≡ 0 → ⊥) → (b : Bool) → b ≡ same_list uri xml_uri → b ≡ false
      → (r : ℕ) → r ≡ listed_from (uris_from h.namespaces (drop p t)) 1 uri → r ≡ class_of (table_of t h) uri
  unfolding class_of
  class_listed uri z b f g r k = k ∙ simp (e, ne_eqb (length uri) 0 z, ← f, g)

module _ (t : List ℕ) (h : Header) (uri : List ℕ) where
  pub class_none : length uri ≡ 0 → 0 ≡ class_of (table_of t h) uri
  unfolding class_of
  class_none z = simp (eq-eqb (length uri) 0 z)

  pub class_xml : (length uri ≡ 0 → ⊥) → (b : Bool) → b ≡ same_list uri xml_uri → b ≡ true → 254 ≡ class_of (table_of t h) uri
  unfolding class_of
  class_xml z b f g = simp (ne_eqb (length uri) 0 z, ← f, g)

-- a URI is one of the listed where its place is not 255: there are fewer
module _ (uri : List ℕ) where
  place_or_none : (us : List (List ℕ)) (k : ℕ) → k + length us ≤ 255 → not (eqb (listed_from us k uri) 255) ≡ any (λ (u : List ℕ). same_list u uri) us
  unfolding listed_from any
  place_or_none [] k l = refl
  place_or_none (u ∷ us) k l = by (same_list u uri) (place_or_none us (k + 1) (omega arith))
    where
      by : (b : Bool) → not (eqb (listed_from us (k + 1) uri) 255) ≡ any (λ (w : List ℕ). same_list w uri) us
          → not (eqb (cond b k (listed_from us (k + 1) uri)) 255) ≡ (b || any (λ (w : List ℕ). same_list w uri) us)
      by true ih = ap not (ne_eqb k 255 (λ z. omega arith))
      by false ih = ih

  pub is_listed : (n : ℕ) (l : List ℕ) → n ≤ 30 → (r : ℕ) → r ≡ listed_from (uris_from n l) 1 uri
      → not (eqb r 255) ≡ any (λ (u : List ℕ). same_list u uri) (uris_from n l)
  is_listed n l h r e = ap (λ (k : ℕ). not (eqb k 255)) e ∙ place_or_none (uris_from n l) 1 (omega (arith, uris_few n l))

-- the empty URI is the one of length 0
pub empty_listed : (t : List ℕ) (h : Header) (p : ℕ) → p ≡ 4 + 4 * h.rules → (b : Bool)
    → b ≡ any (λ (u : List ℕ). same_list u []) (uris_from h.namespaces (drop p t)) → b ≡ any is_empty (uris_of t h)
unfolding same_list
empty_listed t h p e b f = f ∙ (simp e) ∙ any_same (λ (u : List ℕ). same_list u []) is_empty same (uris_of t h)
  where
    same : (u : List ℕ) → same_list u [] ≡ is_empty u
    same [] = refl
    same (x ∷ u) = sym (ne_eqb (suc (length u)) 0 (λ z. omega arith))
