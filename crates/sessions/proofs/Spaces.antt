-- The class and the URI span that a session keeps of a start's namespace give its URI back.
use Prim.Native.Nat.{ℕ, ◌+◌, ◌-◌, ◌≤◌, ◌<◌}
use mathlib.Core.Path.{◌≡◌, refl, sym, ap}
use mathlib.Core.List.{List, [], ◌∷◌}
use mathlib.Core.Bool.{Bool, true, false, cond}
use mathlib.Core.Logic.{◌⊎◌, inl, inr, ⊎_elim}
use native.Mathlib.Omega.{arith}
use borrow.Author.Tests.{eqb-true, ne_eqb}
use lib.ListN.{length}
use lib.Dec.{eqb}
use Rattle.laws.specs.Lists.{same_list}
use Rattle.laws.specs.Reading.{le_or_lt}
use Rattle.compare.specs.Compare.{xml_uri}
use Rattle.compare.proofs.Equal.{same_eq}
use Rattle.table.specs.Table.{Table, header_of, decode, listed_from, class_of}
use Rattle.table.specs.Judge.{Accepted}
use Rattle.table.proofs.Accepted.{header_in, all_listed}
use Rattle.table.proofs.Namespaces.{listed_of_class, class_in_lem, class_nil, class_xml}
use Rattle.reader.specs.Spans.{bytes_of}
use Rattle.reader.specs.Namespaces.{Namespace, nothing, xml, declared, uri_of}
use Rattle.model.specs.Elements.{uri_span, space_of}
use Rattle.sessions.specs.Sessions.{level_uri}

-- 0 and 254 are no places in a list of few
not_listed : (us : List (List ℕ)) (k : ℕ) (u : List ℕ) (c : ℕ) → 1 ≤ k → k + length us ≤ 254 → (c ≡ 0) ⊎ (c ≡ 254) → listed_from us k u ≡ c → ⊥
unfolding listed_from
not_listed [] k u c lo hi o e = ⊎_elim (λ q. omega arith) (λ q. omega arith) o
not_listed (v ∷ us) k u c lo hi o e = by (same_list v u) (not_listed us (k + 1) u c (omega arith) (omega arith) o) e
  where
    by : (b : Bool) → (listed_from us (k + 1) u ≡ c → ⊥) → cond b k (listed_from us (k + 1) u) ≡ c → ⊥
    by true n q = ⊎_elim (λ r. omega arith) (λ r. omega arith) o
    by false n q = n q

nil : (u : List ℕ) → length u ≡ 0 → u ≡ []
nil [] e = refl
nil (x ∷ u) e = absurd (omega arith)

module _ (table : List ℕ) (a : Accepted table ≡ true) where
  abbrev t : Table
  t = decode table

  few : 1 + length t.uris ≤ 254
  few = omega (arith, all_listed table a, (header_in table a).few_namespaces)

  -- class 0 is that of the empty URI, 254 that of xml's
  zero_nil : (u : List ℕ) → class_of t u ≡ 0 → u ≡ []
  unfolding class_of
  zero_nil u = by (eqb (length u) 0) (same_list u xml_uri) refl
    where
      by : (x y : Bool) → eqb (length u) 0 ≡ x → cond x 0 (cond y 254 (listed_from t.uris 1 u)) ≡ 0 → u ≡ []
      by true y q e = nil u (eqb-true (length u) 0 q)
      by false true q e = absurd (omega arith)
      by false false q e = absurd (not_listed t.uris 1 u 0 (omega arith) few (inl refl) e)

  last_xml : (u : List ℕ) → class_of t u ≡ 254 → u ≡ xml_uri
  unfolding class_of
  last_xml u = by (eqb (length u) 0) (same_list u xml_uri) refl
    where
      by : (x y : Bool) → same_list u xml_uri ≡ y → cond x 0 (cond y 254 (listed_from t.uris 1 u)) ≡ 254 → u ≡ xml_uri
      by true y q e = absurd (omega arith)
      by false true q e = same_eq u xml_uri q
      by false false q e = absurd (not_listed t.uris 1 u 254 (omega arith) few (inr refl) e)

  module _ (s : List ℕ) where
    pub class_bounds : (n : Namespace) → ((space_of t s n).class ≤ length t.uris) ⊎ (((space_of t s n).class ≡ 254) ⊎ ((space_of t s n).class ≡ 255))
    unfolding space_of
    class_bounds n = ⊎_elim (λ l. inl (omega (arith, all_listed table a))) (λ r. inr r) (class_in_lem table a (uri_of s n))

    -- an unlisted URI is a declared one
    unlisted : (n : Namespace) → class_of t (uri_of s n) ≡ 255 → bytes_of s (uri_span n) ≡ uri_of s n
    unlisted nothing e = absurd (omega (arith, class_nil t))
    unlisted xml e = absurd (omega (arith, class_xml t))
    unlisted (declared w) e = refl

    pub uri_back : (n : Namespace) → level_uri t s (space_of t s n).class (space_of t s n).uri ≡ uri_of s n
    unfolding level_uri space_of
    uri_back n = ⊎_elim (λ l. ⊎_elim (λ z. at_zero (omega arith)) (λ z. listed l z) (le_or_lt class 0)) (λ r. ⊎_elim at_xml at_last r) (class_in_lem table a (uri_of s n))
      where
        class : ℕ
        class = class_of t (uri_of s n)

        Back : Type 0
        Back = level_uri t s (space_of t s n).class (space_of t s n).uri ≡ uri_of s n

        at_zero : class ≡ 0 → Back
        at_zero e = rw e (sym (zero_nil (uri_of s n) e))

        at_xml : class ≡ 254 → Back
        at_xml e = rw e (sym (last_xml (uri_of s n) e))

        at_last : class ≡ 255 → Back
        at_last e = rw e (unlisted n e)

        listed : class ≤ (header_of table).namespaces → 0 < class → Back
        listed l z =
            let most : (header_of table).namespaces ≤ 30 = (header_in table a).few_namespaces in
            rw (ne_eqb class 0 (λ e. omega arith), ne_eqb class 254 (λ e. omega arith), ne_eqb class 255 (λ e. omega arith))
            (sym (listed_of_class table a (uri_of s n) (class - 1) (omega arith) (omega arith)))

    -- so that a level has its start's namespace
    pub space_back : (n : Namespace) → record { class = (space_of t s n).class; uri = (space_of t s n).uri; bytes = level_uri t s (space_of t s n).class (space_of t s n).uri } ≡ space_of t s n
    unfolding space_of
    space_back n = ap (λ (bytes : List ℕ). record { class = (space_of t s n).class; uri = (space_of t s n).uri; bytes = bytes }) (uri_back n)
